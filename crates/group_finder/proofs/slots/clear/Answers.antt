use Rattle.std.proofs.Common.{refl, arith, ◌∙◌}
use Rattle.group_finder.specs.Slots.{no_offset}
use Rattle.group_finder.proofs.SlotLemmas.{one_more_changed, all_changed, all_alike}
use Rattle.group_finder.proofs.slots.clear.Goals as goal

pub loop-i-preserved : goal.loop-i-preserved
loop-i-preserved c =
    one_more_changed (λ _. no_offset) c.args.slots.now c.loop-i.i c.loop-i.slots _ no_offset (omega (arith, c.loop-i-test.true))
    c.loop-i.invariant refl refl

pub returns : goal.returns
returns c =
    c.loop-i.invariant ∙ all_changed (λ _. no_offset) c.args.slots.now c.loop-i.i (omega (arith, c.loop-i-test.false))
    ∙ all_alike no_offset c.args.slots.now
