use Rattle.std.proofs.Common.{ℕ, List, subst, ◌∙◌}
use Rattle.line_search.specs.Bounded.{line_pattern}
use Rattle.line_search.specs.Fallbacks.{IsProgramOf}
use Rattle.line_search.specs.declared.patterns.PatternOptions.{PatternOptions}
use Rattle.line_search.proofs.slow_search.SlowSearch.has_match.Goals as goal

pub returns-clause-reported : goal.returns-clause-reported
returns-clause-reported c res read =
    c.has_one.ensures.reported (line_pattern c.args.self.now.0 res)
    (subst (λ (v : PatternOptions × List (List ℕ)). IsProgramOf v.0 v.1 c.in_ok-searcher.searcher.program.now)
    (c.compile.ensures ∙ c.has_match_kept.ensures.same ∙ c.ready.ensures ∙ c.self.view_is) c.in_ok-searcher.ensures res read)
