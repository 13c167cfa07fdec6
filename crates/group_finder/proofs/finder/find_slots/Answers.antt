use Rattle.std.proofs.Common.{arith, length, refl, ◌-◌, ◌∙◌}
use Rattle.group_finder.proofs.GroupLemmas.{few_written, all_written, room_or_all}
use Rattle.group_finder.proofs.finder.find_slots.Goals as goal

pub returns-then-slots-lt2-clause-slots : goal.returns-then-slots-lt2-clause-slots
returns-then-slots-lt2-clause-slots c =
    few_written _ c.in_ok-found.found (length c.args.slots.now) _ _ c.in_ok-found.ensures.span c.write_start.ensures.written
    (omega (arith, c.if-slots-lt2.true))

pub returns-clause-slots : goal.returns-clause-slots
returns-clause-slots c =
    all_written _ c.in_ok-found-2.found c.args.dfa.now.nfa.slot_count (length c.split_at_mut-own.result.0.now)
    (length c.split_at_mut-own.result.1.now) (length c.args.slots.now) c.write_ends.new.ends c.find_offsets-2.new.offsets c.clear.new.slots _
    c.in_ok-found-2.ensures.span c.write_ends.ensures.written c.in_ok-found-2.ensures.groups c.clear.ensures c.args.dfa.now.nfa.whole_match
    (omega (
      arith,
      c.if-slots-lt2.false,
      c.split_at_mut-ends.ensures.front_len,
      c.split_at_mut-ends.ensures.back_len,
      c.split_at_mut-own.ensures.front_len,
      c.split_at_mut-own.ensures.back_len,
    ))
    (room_or_all (length c.split_at_mut-ends.result.1.now) (c.args.dfa.now.nfa.slot_count - 2) (length c.split_at_mut-own.result.0.now)
    (length c.split_at_mut-own.result.1.now) (c.split_at_mut-own.ensures.front_len ∙ c.min-room.ensures)
    (omega (arith, c.split_at_mut-own.ensures.front_len, c.split_at_mut-own.ensures.back_len)))
    refl
