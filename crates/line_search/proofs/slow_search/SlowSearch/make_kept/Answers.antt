use Rattle.std.proofs.Common.{ℕ, List, sym, subst}
use Rattle.regex_meta.specs.declared.program.Program.{Program}
use Rattle.line_search.specs.Fallbacks.{IsProgramOf}
use Rattle.line_search.specs.declared.patterns.PatternOptions.{PatternOptions}
use Rattle.line_search.proofs.slow_search.SlowSearch.make_kept.Goals as goal

pub returns : goal.returns
returns c =
    subst (λ (v : PatternOptions × List (List ℕ)). IsProgramOf v.0 v.1 c.in_ok-searcher.searcher.program.now) c.self.view_is
    (subst (λ (p : Program). IsProgramOf c.self.inside.patterns.now.0 c.self.inside.patterns.now.1 p) (sym c.in_ok-searcher.ensures)
    c.in-Some.ensures)
