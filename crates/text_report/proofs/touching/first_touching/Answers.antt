use Rattle.std.proofs.Common.{◌∙◌}
use Rattle.text_report.proofs.TouchingLemmas.{passed}
use Rattle.text_report.proofs.touching.first_touching.Goals as goal

pub loop-at-preserved : goal.loop-at-preserved
loop-at-preserved c begun start end low =
    c.loop-at.invariant begun start end low
    ∙ passed begun start end c.args.found.now c.loop-at.at _ c.loop-at-test.true c.args.place c.if-place-found.false c.if-place-found-2.false
    low
