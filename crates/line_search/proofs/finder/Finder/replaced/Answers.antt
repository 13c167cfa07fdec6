use Rattle.std.proofs.Common.{ℕ, List, map, subst}
use Rattle.line_search.specs.LineMatchers.{span_pair}
use Rattle.line_search.specs.Searchers.{AreReplaced, Sought}
use Rattle.line_search.specs.declared.patterns.PatternOptions.{PatternOptions}
use Rattle.line_search.proofs.finder.Finder.replaced.Goals as goal

pub returns-clause-reported : goal.returns-clause-reported
returns-clause-reported c =
    subst (λ (s : Sought). AreReplaced s.how s.texts c.args.template.now c.args.line.now c.in_ok-replaced.replaced.bytes.items
    (map span_pair c.in_ok-replaced.replaced.spans.items)) c.self.view_is
    (subst (λ (v : PatternOptions × List (List ℕ)). AreReplaced v.0 v.1 c.args.template.now c.args.line.now c.in_ok-replaced.replaced.bytes.items
    (map span_pair c.in_ok-replaced.replaced.spans.items)) c.self.invariant.1 c.in_ok-replaced.ensures.reported)
