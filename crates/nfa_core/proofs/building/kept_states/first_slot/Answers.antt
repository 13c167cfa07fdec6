use Rattle.std.proofs.Common.{◌≤◌, ◌∙◌, ap, arith}
use Rattle.std.specs.Prelude.{unwrap_or}
use Rattle.search_core.specs.Index.{greatest_index}
use Rattle.search_types.specs.Groups.{slot, slot_len}
use Rattle.nfa_core.proofs.KeptStateLemmas.{slot_room}
use Rattle.nfa_core.proofs.building.kept_states.first_slot.Goals as goal

pub returns-clause-in_range : goal.returns-clause-in_range
returns-clause-in_range c =
    let most : slot_len c.args.groups.now ≤ greatest_index = omega (
      arith,
      c.slot_len-slots.ensures.value,
      c.slot_len-slots.ensures.in_range,
    ) in
    let room = slot_room c.args.groups.now c.args.pattern c.args.group c.requires most in
    let same = c.unwrap_or.ensures ∙ ap (λ o. unwrap_or o 0) (c.slot.ensures.value
    ∙ ap (slot c.args.groups.now c.args.pattern) c.as_usize.ensures.value) in
    omega (arith, room, same)
