use Rattle.std.proofs.Common.{ℕ, List, ◌++◌, arith, ap, ap₂, drop, replicate, subst, sym, ◌∙◌}
use Rattle.std.proofs.lemmas.List.{take-append-drop}
use Rattle.group_finder.specs.Slots.{no_offset, slots_of}
use Rattle.captures.specs.Rows.{AreFilled}
use Rattle.captures.proofs.RowLemmas.{filled_more, filled_no_more, filled_within, length_alike, length_slots, take_alike, take_slots}
use Rattle.captures.proofs.groups.Groups.write_row.Goals as goal

pub returns-then-filled-slots-clause-written : goal.returns-then-filled-slots-clause-written
returns-then-filled-slots-clause-written c = λ o texts of res read first m span inside there done old it.
    absurd (omega (arith, c.if-filled-slots.true, filled_within done old c.args.slots.now c.args.filled it))

pub returns-then-room-eq0-clause-written : goal.returns-then-room-eq0-clause-written
returns-then-room-eq0-clause-written c = λ o texts of res read first m span inside there done old it.
    subst (λ (xs : List ℕ). AreFilled (done ++ slots_of m c.args.width) old xs c.args.filled)
    (sym (ap₂ ◌++◌ c.split_at_mut-rest.ensures.front c.split_at_mut-rest.ensures.back ∙ take-append-drop c.args.filled c.args.slots.now))
    (filled_no_more done old c.args.slots.now (slots_of m c.args.width) c.args.filled it
    (omega (arith, c.if-room-eq0.true, c.min-room.ensures, c.split_at_mut-rest.ensures.back_len, length_slots m c.args.width)))

pub returns-in-Ok-clause-written : goal.returns-in-Ok-clause-written
returns-in-Ok-clause-written c = λ o texts of res read first m span inside there done old it.
    filled_more done old c.args.slots.now _ (slots_of m c.args.width) c.args.filled c.min-room.result it
    (omega (arith, c.min-room.ensures, c.split_at_mut-rest.ensures.back_len, length_slots m c.args.width))
    (ap₂ ◌++◌ c.split_at_mut-rest.ensures.front (ap₂ ◌++◌
    (c.in-Ok.ensures.written o texts of res read first m span inside there
    ∙ ap (slots_of m) c.split_at_mut-row.ensures.front_len
    ∙ sym (take_slots m c.min-room.result c.args.width (omega (arith, c.min-room.ensures))))
    (c.split_at_mut-row.ensures.back ∙ ap (drop c.min-room.result) c.split_at_mut-rest.ensures.back)))

pub returns-in-Err-clause-cleared : goal.returns-in-Err-clause-cleared
returns-in-Err-clause-cleared c = λ done old it.
    (filled_more done old c.args.slots.now _ (replicate c.args.width no_offset) c.args.filled c.min-room.result it
    (omega (arith, c.min-room.ensures, c.split_at_mut-rest.ensures.back_len, length_alike no_offset c.args.width))
    (ap₂ ◌++◌ c.split_at_mut-rest.ensures.front (ap₂ ◌++◌
    (c.in-Err.ensures.cleared
    ∙ ap (λ (n : ℕ). replicate n no_offset) c.split_at_mut-row.ensures.front_len
    ∙ sym (take_alike no_offset c.min-room.result c.args.width (omega (arith, c.min-room.ensures))))
    (c.split_at_mut-row.ensures.back ∙ ap (drop c.min-room.result) c.split_at_mut-rest.ensures.back)))).laid
