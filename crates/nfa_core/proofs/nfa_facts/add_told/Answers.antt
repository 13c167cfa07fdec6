use Rattle.nfa_core.proofs.ToldLemmas.{ranges_ascend}
use Rattle.nfa_core.proofs.nfa_facts.add_told.Goals as goal

pub add_ranges-requires : goal.add_ranges-requires
add_ranges-requires c = rw c.deref.ensures.value (ranges_ascend c.in-Sparse.sparse.transitions.items 0
    (rw c.in-Sparse.is at c.requires.1).0)
