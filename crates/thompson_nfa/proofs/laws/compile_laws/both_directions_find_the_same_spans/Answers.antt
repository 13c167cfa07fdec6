use Rattle.thompson_nfa.proofs.Walks.DirectionLemmas.{same_patterns, same_anchored, same_unanchored}
use Rattle.thompson_nfa.proofs.laws.compile_laws.both_directions_find_the_same_spans.Goals as goal

pub returns-clause-patterns : goal.returns-clause-patterns
returns-clause-patterns c =
    same_patterns c.cut_haystacks_have_the_spans_within.ensures.whole c.cut_haystacks_have_the_spans_within.ensures.cut

pub returns-clause-anchored : goal.returns-clause-anchored
returns-clause-anchored c =
    same_anchored c.cut_haystacks_have_the_spans_within.ensures.whole c.cut_haystacks_have_the_spans_within.ensures.cut

pub returns-clause-unanchored : goal.returns-clause-unanchored
returns-clause-unanchored c =
    same_unanchored c.cut_haystacks_have_the_spans_within.ensures.whole c.cut_haystacks_have_the_spans_within.ensures.cut
