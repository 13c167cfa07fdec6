-- Each sequence is the next of what is left.
use Rattle.thompson_nfa.proofs.Classes.ClassTrieLemmas.{next_ranges, next_turned, met_turned, next_gained}
use Rattle.thompson_nfa.proofs.range_tries.class_trie.insert_range.Goals as goal

pub insert_turned-requires-clause-ordered : goal.insert_turned-requires-clause-ordered
insert_turned-requires-clause-ordered c = next_ranges _ _ _ _ c.args.first c.args.last _ c.loop-sequence.invariant c.in-Some.ensures.steps

pub insert_turned-requires-clause-old : goal.insert_turned-requires-clause-old
insert_turned-requires-clause-old c = met_turned _ _ _ _ c.args.first c.args.last _ c.loop-sequence.invariant c.in-Some.ensures.steps
    c.requires

pub insert_turned-requires-clause-new : goal.insert_turned-requires-clause-new
insert_turned-requires-clause-new c = next_turned _ _ _ _ c.args.first c.args.last _ c.loop-sequence.invariant c.in-Some.ensures.steps

pub loop-sequence-preserved : goal.loop-sequence-preserved
loop-sequence-preserved c = next_gained _ _ _ _ _ _ _ c.loop-sequence.invariant c.in-Some.ensures.steps c.in_ok-insert_turned.ensures
