use Rattle.std.proofs.Common.{◌≡◌}
use Rattle.group_finder.specs.Slots.{no_offset}
use Rattle.group_finder.proofs.SlotLemmas.{changed}
use Rattle.group_finder.proofs.slots.clear.Given as goal

-- the slots so far have no offset
abbrev pub invariant-loop-i : goal.invariant-loop-i
invariant-loop-i l = l.slots ≡ changed (λ _. no_offset) l.i l.fn.slots
