use Rattle.std.proofs.Common.{sym, arith}
use Rattle.hirscan.proofs.LowEndLemmas.{covered_more}
use Rattle.hirscan.proofs.words.LowEnds.add.Goals as goal

pub returns : goal.returns
returns c = λ b.
    let room = c.ranges.high.fits in
    let e = covered_more c.self.inside.lows c.args.low c.args.high b (omega (arith, c.self.told)) in
    rw (sym c.self.view_is, c.min.ensures, c.from.ensures, c.from-end.ensures) e
