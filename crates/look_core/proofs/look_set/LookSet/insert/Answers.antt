use Rattle.std.proofs.Common.{ℕ, subst, sym}
use Rattle.look_core.specs.LookSets.{IsLookSet}
use Rattle.look_core.proofs.LookSetLemmas.{union-lt, repr-lt}
use Rattle.look_core.proofs.look_set.LookSet.insert.Goals as goal

pub invariant_of-result : goal.invariant_of-result
invariant_of-result c = union-lt _ _ c.self.invariant (subst (λ (n : ℕ). IsLookSet n) (sym c.as_repr.ensures) (repr-lt _))
