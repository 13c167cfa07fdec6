use Rattle.nfa_core.proofs.PairedLemmas.{distinct, below}
use Rattle.nfa_core.proofs.name_sets.pair_set.PairSetNameSet.len.Goals as goal

pub returns-clause-distinct : goal.returns-clause-distinct
returns-clause-distinct c = rw (← c.self.view_is) (distinct _ _ _ c.self.invariant)

pub returns-clause-below : goal.returns-clause-below
returns-clause-below c = rw (← c.self.view_is) (below _ _ _ c.self.invariant)
