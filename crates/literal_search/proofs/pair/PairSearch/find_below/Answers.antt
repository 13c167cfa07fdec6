use Rattle.std.proofs.Common.{◌+◌, ◌≤◌, arith}
use Rattle.literal_search.proofs.PairLemmas.{nowhere_below, nowhere_unmarked}
use Rattle.literal_search.proofs.pair.PairSearch.find_below.Goals as goal

pub returns-then-stands_at-clause-near : goal.returns-then-stands_at-clause-near
returns-then-stands_at-clause-near c =
    let low = c.loop-at.invariant.0 in
    let passed = nowhere_below c.args.from c.loop-at.at _ _ c.loop-at.invariant.2 c.marks-marks.ensures c.lowest.ensures.set c.lowest.ensures.below in (
      omega (arith, low),
      passed.1,
      (c.stands_at.ensures _ c.args.self.now.begins).0 c.if-stands_at.true,
    )

pub returns-then-marks-ne0-clause-near : goal.returns-then-marks-ne0-clause-near
returns-then-marks-ne0-clause-near c =
    let low = c.loop-at.invariant.0 in
    let room : c.loop-at.at + 64 ≤ c.args.end = omega (arith, c.loop-at-test.true, c.loop-at.invariant.1) in
    let passed = nowhere_below c.args.from c.loop-at.at _ _ c.loop-at.invariant.2 c.marks-marks.ensures c.lowest.ensures.set c.lowest.ensures.below in (
      omega (arith, low),
      omega (arith, passed.0, room, c.requires.within),
      passed.1,
    )

pub loop-at-preserved : goal.loop-at-preserved
loop-at-preserved c =
    let low = c.loop-at.invariant.0 in (
      omega (arith, low),
      omega (arith, c.loop-at-test.true, c.loop-at.invariant.1),
      nowhere_unmarked c.args.from c.loop-at.at _ c.loop-at.invariant.2 c.marks-marks.ensures c.if-marks-ne0.false,
    )
