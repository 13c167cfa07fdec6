use Rattle.std.proofs.Common.{sym, arith}
use Rattle.meta_regex.proofs.ForCallers.{none_laid, one_more_byte, all_bytes}
use Rattle.ffi_core.proofs.words.write_into.Goals as goal

pub loop-at-init : goal.loop-at-init
loop-at-init c = sym (none_laid c.args.room.now)

pub loop-at-preserved : goal.loop-at-preserved
loop-at-preserved c =
    one_more_byte c.args.bytes.now c.loop-at.at 0 c.args.room.now c.loop-at.room c.put.new.room c.loop-at-test.true
    c.loop-at.invariant c.put.ensures

pub returns : goal.returns
returns c = all_bytes c.args.bytes.now c.loop-at.at c.args.room.now c.loop-at.room (omega (arith, c.loop-at-test.false)) c.loop-at.invariant
