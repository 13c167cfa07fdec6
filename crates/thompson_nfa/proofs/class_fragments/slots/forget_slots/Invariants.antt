use Rattle.std.proofs.Common.{◌≡◌, None, replicate, take}
use Rattle.thompson_nfa.proofs.class_fragments.slots.forget_slots.Given as goal

abbrev pub invariant-loop-slot : goal.invariant-loop-slot
invariant-loop-slot g l = take l.slot-index l.slots ≡ replicate l.slot-index None
