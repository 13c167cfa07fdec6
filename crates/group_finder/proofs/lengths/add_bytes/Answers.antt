use Rattle.std.proofs.Common.{arith, refl}
use Rattle.group_finder.proofs.ReadsLemmas.{all_added, one_more_added}
use Rattle.group_finder.proofs.lengths.add_bytes.Goals as goal

pub loop-i-preserved : goal.loop-i-preserved
loop-i-preserved c =
    one_more_added c.args.set.now c.loop-i.set c.add.new.self c.args.bytes.now c.loop-i.i _ c.requires (omega (arith, c.loop-i-test.true))
    (omega arith) refl c.add.ensures c.loop-i.invariant

pub returns-clause-added : goal.returns-clause-added
returns-clause-added c = all_added c.loop-i.set c.args.bytes.now c.loop-i.i (omega (arith, c.loop-i-test.false)) c.loop-i.invariant.1
