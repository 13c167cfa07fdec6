use Rattle.std.proofs.Common.{ℕ, List, Option, Box, sym, subst, ◌∙◌}
use Rattle.std.specs.Prelude.{IfSome}
use Rattle.std.specs.declared.alloc.Global.{Global}
use Rattle.regex_meta.specs.declared.program.Program.{Program}
use Rattle.line_search.specs.Fallbacks.{IsProgramOf}
use Rattle.line_search.specs.declared.patterns.PatternOptions.{PatternOptions}
use Rattle.line_search.proofs.slow_search.SlowSearch.searcher.Goals as goal

pub returns : goal.returns
returns c =
    let how = c.self.inside.patterns.now.0 in
    let texts = c.self.inside.patterns.now.1 in
    subst (λ (v : PatternOptions × List (List ℕ)). IsProgramOf v.0 v.1 c.in_ok-searcher.searcher.program.now) c.self.view_is
    (subst (λ (p : Program). IsProgramOf how texts p) (sym (c.in_ok-searcher.ensures ∙ c.deref.ensures))
    (subst (λ (o : Option (Box Program Global)). IfSome o (λ it. IsProgramOf how texts it.value)) c.in-Some.is c.self.invariant.1))
