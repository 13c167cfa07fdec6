use Rattle.std.proofs.Common.{refl, arith, ◌∙◌}
use Rattle.group_finder.specs.Slots.{offset_of_cell}
use Rattle.group_finder.proofs.SlotLemmas.{one_more_changed, all_changed}
use Rattle.group_finder.proofs.slots.decode.Goals as goal

pub loop-i-preserved : goal.loop-i-preserved
loop-i-preserved c =
    one_more_changed offset_of_cell c.args.cells.now c.loop-i.i c.loop-i.cells _ c.offset.result (omega (arith, c.loop-i-test.true))
    c.loop-i.invariant c.offset.ensures refl

pub returns : goal.returns
returns c = c.loop-i.invariant ∙ all_changed offset_of_cell c.args.cells.now c.loop-i.i (omega (arith, c.loop-i-test.false))
