use Rattle.std.proofs.Common.{◌≡◌, drop}
use Rattle.std.specs.List.{list_any}
use Rattle.look_core.specs.LookSets.{has_look}
use Rattle.look_core.proofs.look_set.LookSet.contains_any.Given as goal

abbrev pub invariant-loop-look : goal.invariant-loop-look
invariant-loop-look l = list_any (has_look l.self) l.looks ≡ list_any (has_look l.self) (drop l.look-index l.looks)
