use Rattle.std.proofs.Common.{◌≡◌, ◌+◌, ◌*◌, take}
use Rattle.hir_core.specs.Tree.{concat}
use Rattle.hir_core.specs.Node.{node}
use Rattle.hir_core.specs.Weight.{weight}
use Rattle.hir_core.proofs.hir.+try_clone.Given as goal

abbrev pub decreases-Hir::try_clone : goal.decreases-Hir::try_clone
decreases-Hir::try_clone l = 3 * weight l.self.now + 2

abbrev pub decreases-clone_kind : goal.decreases-clone_kind
decreases-clone_kind l = 3 * weight (node l.kind.now) + 1

abbrev pub decreases-clone_all : goal.decreases-clone_all
decreases-clone_all l = 3 * weight (concat l.subs.now)

abbrev pub invariant-clone_all-loop-sub : goal.invariant-clone_all-loop-sub
invariant-clone_all-loop-sub l = l.copies.items ≡ take l.sub-index l.subs
