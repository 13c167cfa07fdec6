use Rattle.std.proofs.Common.{arith}
use Rattle.ffi_core.proofs.TextLemmas.{fits_at_end, longer_than_left, one_more_length}
use Rattle.ffi_core.proofs.texts.lengths_fit.Goals as goal

pub loop-length-preserved : goal.loop-length-preserved
loop-length-preserved c =
    one_more_length c.args.lengths.now c.args.bytes.now c.loop-length.length-index 0 c.loop-length.left c.loop-length-test.true
    c.if-length-left.false c.loop-length.invariant

pub returns-then-length-left : goal.returns-then-length-left
returns-then-length-left c =
    longer_than_left c.args.lengths.now c.args.bytes.now c.loop-length.length-index 0 c.loop-length.left c.loop-length-test.true
    (omega (arith, c.if-length-left.true)) c.loop-length.invariant

pub returns : goal.returns
returns c =
    fits_at_end c.args.lengths.now c.args.bytes.now c.loop-length.length-index c.loop-length.left c.if-is_empty.ensures
    (omega (arith, c.loop-length-test.false)) c.loop-length.invariant
