use Rattle.std.proofs.Common.{refl, length, arith}
use Rattle.thompson_nfa.proofs.Steps.ErrorLemmas.{handed}
use Rattle.thompson_nfa.proofs.LiteralTries.LiteralStateLemmas.{no_items}
use Rattle.thompson_nfa.proofs.LiteralTries.LiteralRowLemmas.{row_chunk, row_added, row_refused}
use Rattle.thompson_nfa.proofs.LiteralTries.LiteralRowLemmas.{row_passed, rows_one, rows_union}
use Rattle.thompson_nfa.proofs.LiteralTries.LiteralRowLemmas.{rows_refused, rows_passed}
use Rattle.thompson_nfa.proofs.literals.literal_states.add_node.Goals as goal

pub loop-item-init : goal.loop-item-init
loop-item-init c = (no_items _ _ _ _ _ refl c.new-ways.ensures.items, omega arith)

pub add_item-requires-clause-inside : goal.add_item-requires-clause-inside
add_item-requires-clause-inside c =
    (row_chunk (λ x. x.items) c.args.items.now c.loop-item.item-index c.item-item.result c.deref.result.now c.item-item.is
    c.deref.ensures.value c.loop-item-test.true (length c.args.names.now) c.requires.chunks).0

pub add_item-requires-clause-ascending : goal.add_item-requires-clause-ascending
add_item-requires-clause-ascending c =
    (row_chunk (λ x. x.items) c.args.items.now c.loop-item.item-index c.item-item.result c.deref.result.now c.item-item.is
    c.deref.ensures.value c.loop-item-test.true (length c.args.names.now) c.requires.chunks).1

pub returns-in_err-id-clause-refused : goal.returns-in_err-id-clause-refused
returns-in_err-id-clause-refused c = handed _ _ c.in_err-id.field-0.0 c.from_residual.ensures.1
    (row_refused (λ x. x.items) c.args.items.now c.loop-item.item-index c.item-item.result c.deref.result.now c.item-item.is
    c.deref.ensures.value c.loop-item-test.true _ _ _ c.args.names.now c.args.end c.loop-item.ways.items _
    c.loop-item.invariant.0 c.in_err-id.ensures.refused c.requires.chunks)

pub returns-in_err-id-clause-passed : goal.returns-in_err-id-clause-passed
returns-in_err-id-clause-passed c = handed _ _ c.in_err-id.field-0.0 c.from_residual.ensures.1
    (row_passed (λ x. x.items) c.args.items.now c.loop-item.item-index c.item-item.result c.deref.result.now c.item-item.is
    c.deref.ensures.value c.loop-item-test.true _ _ c.add_item.new.builder c.args.names.now c.args.end c.loop-item.ways.items _
    c.loop-item.invariant.0 c.in_err-id.ensures.refused)

pub loop-item-preserved : goal.loop-item-preserved
loop-item-preserved c = (
  row_added (λ x. x.items) c.args.items.now c.loop-item.item-index c.item-item.result c.deref.result.now c.item-item.is
      c.deref.ensures.value c.loop-item-test.true _ _ _ c.args.names.now c.args.end c.in_ok-id.id c.loop-item.ways.items _
      c.loop-item.invariant.0 c.in_ok-id.ensures.added c.in_ok-push_way.ensures c.requires.names c.requires.chunks,
  omega (arith, c.loop-item-test.true),
)

pub returns-then-len-eq1-clause-added : goal.returns-then-len-eq1-clause-added
returns-then-len-eq1-clause-added c =
    rows_one (λ x. x.items) c.args.items.now c.loop-item.item-index _ _ _ _ c.loop-item.ways.items c.loop-item.invariant.0
    c.loop-item-test.false c.requires.some c.requires.few c.requires.parted c.len.result _ (omega (arith, c.len.ensures)) c.if-len-eq1.true
    c.index.ensures

pub returns-in_err-id-2-clause-refused : goal.returns-in_err-id-2-clause-refused
returns-in_err-id-2-clause-refused c = handed _ _ c.in_err-id-2.field-0.0 c.from_residual-in_err-id-2.ensures.1
    (rows_refused (λ x. x.items) c.args.items.now c.loop-item.item-index _ _ c.args.names.now c.args.end c.loop-item.ways.items
    c.loop-item.invariant.0 c.loop-item-test.false c.requires.some c.requires.few c.requires.parted _ _ c.len.result
    (omega (arith, c.len.ensures)) c.if-len-eq1.false c.in_err-id-2.ensures)

pub returns-in_err-id-2-clause-passed : goal.returns-in_err-id-2-clause-passed
returns-in_err-id-2-clause-passed c = handed _ _ c.in_err-id-2.field-0.0 c.from_residual-in_err-id-2.ensures.1
    (rows_passed (λ x. x.items) c.args.items.now c.loop-item.item-index _ _ c.args.names.now c.args.end c.loop-item.ways.items
    c.loop-item.invariant.0 c.loop-item-test.false c.requires.some c.requires.few c.requires.parted _ c.len.result
    (omega (arith, c.len.ensures)) c.if-len-eq1.false c.in_err-id-2.ensures.passed)

pub returns-clause-added : goal.returns-clause-added
returns-clause-added c =
    rows_union (λ x. x.items) c.args.items.now c.loop-item.item-index _ _ _ _ c.loop-item.ways.items c.loop-item.invariant.0
    c.loop-item-test.false c.requires.some c.requires.few c.requires.parted _ _ c.len.result
    (omega (arith, c.len.ensures)) c.if-len-eq1.false
    c.requires.end c.in_ok-id-2.ensures
