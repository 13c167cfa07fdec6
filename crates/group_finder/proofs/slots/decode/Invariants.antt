use Rattle.std.proofs.Common.{◌≡◌}
use Rattle.group_finder.specs.Slots.{offset_of_cell}
use Rattle.group_finder.proofs.SlotLemmas.{changed}
use Rattle.group_finder.proofs.slots.decode.Given as goal

-- the cells so far are converted
abbrev pub invariant-loop-i : goal.invariant-loop-i
invariant-loop-i l = l.cells ≡ changed offset_of_cell l.i l.fn.cells
