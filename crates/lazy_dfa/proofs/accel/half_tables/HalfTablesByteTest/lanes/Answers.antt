use Rattle.lazy_dfa.proofs.PassedBytes.HalfTableLemmas.{marked_halves}
use Rattle.lazy_dfa.proofs.accel.half_tables.HalfTablesByteTest.lanes.Goals as goal

pub returns : goal.returns
returns c =
    let tables = c.args.self.now in
    marked_halves tables.low tables.high c.args.bytes c.by_low_half.result c.by_high_half.result c.fits-bytes.0
    c.by_low_half.ensures c.by_high_half.ensures
