use Rattle.std.proofs.Common.{◌≤◌, ◌+◌, length, arith}
use Rattle.lazy_dfa.proofs.PassedBytes.PairLemmas.{no_pair_in_lanes, none_before_pair, pair_within}
use Rattle.lazy_dfa.proofs.accel.pairs.find_pair.Goals as goal

pub returns-then-bits-ne0-clause-high : goal.returns-then-bits-ne0-clause-high
returns-then-bits-ne0-clause-high g c =
    let room : c.wide.at + 33 ≤ length c.args.haystack.now = omega arith in
    let within = pair_within (g.A.ByteTest.passes c.args.first.now) (g.B.ByteTest.passes c.args.second.now) c.args.haystack.now c.wide.at
    room _ c.pair_bits-bits.ensures (omega (arith, c.if-bits-ne0.true)) in
    omega (arith, within)

pub returns-then-bits-ne0-clause-passed : goal.returns-then-bits-ne0-clause-passed
returns-then-bits-ne0-clause-passed g c =
    let room : c.wide.at + 33 ≤ length c.args.haystack.now = omega arith in
    none_before_pair (g.A.ByteTest.passes c.args.first.now) (g.B.ByteTest.passes c.args.second.now) c.args.haystack.now c.wide.at
    room _ c.pair_bits-bits.ensures c.args.from (omega (arith, c.if-bits-ne0.true)) c.wide.invariant.2

pub wide-preserved : goal.wide-preserved
wide-preserved g c =
    let room : c.wide.at + 33 ≤ length c.args.haystack.now = omega arith in (
      omega (arith, c.wide.invariant.0),
      omega arith,
      no_pair_in_lanes (g.A.ByteTest.passes c.args.first.now) (g.B.ByteTest.passes c.args.second.now) c.args.haystack.now c.wide.at
          room _ c.pair_bits-bits.ensures c.args.from c.if-bits-ne0.false c.wide.invariant.2,
    )
