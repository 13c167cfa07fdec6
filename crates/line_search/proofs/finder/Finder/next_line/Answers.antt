use Rattle.std.proofs.Common.{◌∙◌, ℕ, List, subst}
use Rattle.line_search.specs.Candidates.{IsNextLine}
use Rattle.line_search.specs.Searchers.{Sought}
use Rattle.line_search.specs.declared.patterns.PatternOptions.{PatternOptions}
use Rattle.line_search.proofs.finder.Finder.next_line.Goals as goal

pub returns-then-has_literal_at-clause-next : goal.returns-then-has_literal_at-clause-next
returns-then-has_literal_at-clause-next c =
    subst (λ (s : Sought). IsNextLine s.how s.texts c.args.block.now c.args.at c.in_ok-reached.reached) c.skip_by_literals-skipped.ensures.same
    c.in_ok-reached.ensures.next

pub returns-clause-next : goal.returns-clause-next
returns-clause-next c =
    subst (λ (s : Sought). IsNextLine s.how s.texts c.args.block.now c.args.at c.in_ok-reached-2.reached)
    (c.self.view_is ∙ c.skip_by_literals-skipped.ensures.same)
    (subst (λ (v : PatternOptions × List (List ℕ)). IsNextLine v.0 v.1 c.args.block.now c.args.at c.in_ok-reached-2.reached)
    c.self.invariant.2 c.in_ok-reached-2.ensures.reaches.next)
