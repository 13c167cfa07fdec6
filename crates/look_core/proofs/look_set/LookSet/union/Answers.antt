use Rattle.look_core.proofs.LookSetLemmas.{union-lt}
use Rattle.look_core.proofs.look_set.LookSet.union.Goals as goal

pub invariant_of-result : goal.invariant_of-result
invariant_of-result c = search (union-lt, c.self.invariant, c.other.invariant)
