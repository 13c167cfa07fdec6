use Rattle.std.proofs.Common.{◌+◌, ◌*◌, slice_range, ap₂, sym, ◌∙◌, arith}
use Rattle.std.proofs.lemmas.Grind.{get_or_default_zero}
use Rattle.group_finder.specs.Slots.{no_offset}
use Rattle.templates.proofs.TextLemmas.{both_slots, no_end, no_slots, no_start}
use Rattle.templates.proofs.slots.group_in.Goals as goal

pub returns-then-group-slots : goal.returns-then-group-slots
returns-then-group-slots c =
    sym (no_slots c.args.haystack.now c.args.slots.now c.args.group (omega arith))

pub returns-then-start : goal.returns-then-start
returns-then-start c =
    sym (no_start c.args.haystack.now c.args.slots.now c.args.group
    (get_or_default_zero c.args.slots.now (2 * c.args.group) no_offset (omega arith) ∙ c.if-start.true))

pub returns-then-end : goal.returns-then-end
returns-then-end c =
    sym (no_end c.args.haystack.now c.args.slots.now c.args.group
    (get_or_default_zero c.args.slots.now (2 * c.args.group + 1) no_offset (omega arith) ∙ c.if-end.true))

pub returns : goal.returns
returns c =
    let first = get_or_default_zero c.args.slots.now (2 * c.args.group) no_offset (omega arith) in
    let last = get_or_default_zero c.args.slots.now (2 * c.args.group + 1) no_offset (omega arith) in
    c.bytes_between.ensures
    ∙ ap₂ (λ i j. slice_range c.args.haystack.now i j) (sym first) (sym last)
    ∙ sym (both_slots c.args.haystack.now c.args.slots.now c.args.group (λ e. c.if-start.false (sym first ∙ e)) (λ e. c.if-end.false (sym last ∙ e)))
