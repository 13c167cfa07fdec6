use Rattle.std.proofs.Common.{◌≤◌, ◌+◌, length, arith}
use Rattle.lazy_dfa.proofs.PassedBytes.ByteTestLemmas.{found_within, found_passes, found_passes_over, none_passes_over}
use Rattle.lazy_dfa.proofs.accel.byte_tests.find_wide.Goals as goal

pub returns-then-marks-ne0-clause-high : goal.returns-then-marks-ne0-clause-high
returns-then-marks-ne0-clause-high g c =
    let test = g.T.ByteTest.passes c.args.test.now in
    let room : c.wide.at + 32 ≤ length c.args.haystack.now = omega arith in
    let within =
    found_within test c.args.haystack.now c.args.from c.wide.at _ _ room c.lanes.ensures c.bits_of-marks.ensures
    (omega (arith, c.if-marks-ne0.true)) in
    omega (arith, within)

pub returns-then-marks-ne0-clause-passed : goal.returns-then-marks-ne0-clause-passed
returns-then-marks-ne0-clause-passed g c =
    let test = g.T.ByteTest.passes c.args.test.now in
    let room : c.wide.at + 32 ≤ length c.args.haystack.now = omega arith in
    found_passes_over test c.args.haystack.now c.args.from c.wide.at _ _ room c.lanes.ensures c.bits_of-marks.ensures
    (omega (arith, c.if-marks-ne0.true)) c.wide.invariant.2

pub wide-preserved : goal.wide-preserved
wide-preserved g c =
    let test = g.T.ByteTest.passes c.args.test.now in
    let room : c.wide.at + 32 ≤ length c.args.haystack.now = omega arith in (
      omega (arith, c.wide.invariant.0),
      omega arith,
      none_passes_over test c.args.haystack.now c.args.from c.wide.at _ _ room c.lanes.ensures c.bits_of-marks.ensures
          c.if-marks-ne0.false c.wide.invariant.2,
    )

pub returns-then-marks-ne0-clause-found : goal.returns-then-marks-ne0-clause-found
returns-then-marks-ne0-clause-found g c =
    let test = g.T.ByteTest.passes c.args.test.now in
    let room : c.wide.at + 32 ≤ length c.args.haystack.now = omega arith in
    λ _. found_passes test c.args.haystack.now c.args.from c.wide.at _ _ room c.lanes.ensures c.bits_of-marks.ensures
    (omega (arith, c.if-marks-ne0.true))
