use Rattle.thompson_nfa.specs.NodeCopies.{AreNone}
use Rattle.thompson_nfa.proofs.range_tries.range_copy.no_copies.Given as goal

abbrev pub invariant-loop-index : goal.invariant-loop-index
invariant-loop-index l = AreNone l._index l.names.items
