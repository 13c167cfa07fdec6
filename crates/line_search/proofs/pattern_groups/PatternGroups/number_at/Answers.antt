use Rattle.std.proofs.Common.{ℕ, List, Box, ◌≡◌, ◌∙◌, map, subst, sym, true}
use Rattle.std.specs.Prelude.{is_some}
use Rattle.std.specs.declared.alloc.Global.{Global}
use Rattle.regex_hir.specs.Re.{Re, accept, attempt}
use Rattle.regex_meta.specs.declared.program.Program.{Program}
use Rattle.pattern_fallback.specs.Fallbacks.{AreProgramsOfEach}
use Rattle.pattern_search.specs.Texts.{AreReadAs}
use Rattle.line_search.specs.Bounded.{bounded, line_pattern}
use Rattle.line_search.specs.Meant.{line_config}
use Rattle.line_search.specs.Replacing.{pattern_at}
use Rattle.line_search.specs.declared.patterns.PatternOptions.{PatternOptions}
use Rattle.line_search.proofs.NumberedLemmas.{first_is}
use Rattle.line_search.proofs.pattern_groups.PatternGroups.number_at.Goals as goal

-- the number of the pattern that matches from there
abbrev IsNumber : List ℕ → ℕ → ℕ → PatternOptions × List (List ℕ) → Type 0
IsNumber line start k v = (res : List Re) → AreReadAs (line_config v.0) v.1 res →
    is_some (attempt line (line_pattern v.0 res) accept start) ≡ true → k ≡ pattern_at v.0 res line start

pub returns : goal.returns
returns c =
    let how = c.self.inside.how in
    subst (IsNumber c.args.line.now c.args.start c.in_ok-number.number) c.self.view_is
    (λ res read some. c.in_ok-number.ensures (map (bounded how) res)
    (subst (λ (ps : List (Box Program Global)). AreProgramsOfEach (map (bounded how) res) ps) (sym c.deref.ensures.value)
    (c.self.invariant.1 res read)) some
    ∙ first_is how res c.args.line.now c.args.start)
