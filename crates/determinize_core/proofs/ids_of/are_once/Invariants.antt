use Rattle.std.proofs.Common.{◌≡◌, length}
use Rattle.determinize_core.specs.WalkLists.{is_once}
use Rattle.determinize_core.proofs.ids_of.are_once.Given as goal

abbrev pub invariant-loop-id : goal.invariant-loop-id
invariant-loop-id l = is_once l.fn.ids ≡ is_once l.left

abbrev pub decreases-loop-id : goal.decreases-loop-id
decreases-loop-id l = length l.left
