use Rattle.meta_regex.proofs.SplittingLemmas.{shuns_before, shuns_last}
use Rattle.meta_regex.proofs.splitting.shun.Goals as goal

pub returns-in-Never : goal.returns-in-Never
returns-in-Never c on =
    c.loop-part.invariant
    (shuns_last c.in-Some.part.now c.in-Some.others.now c.loop-part.left.now c.in-Some.ensures.cases.0 c.args.set.now c.in-Never.ensures)

pub loop-part-preserved : goal.loop-part-preserved
loop-part-preserved c shun =
    c.loop-part.invariant
    (shuns_before c.in-Some.part.now c.in-Some.others.now c.loop-part.left.now c.in-Some.ensures.cases.0 c.args.set.now c.in-Empty.ensures shun)
