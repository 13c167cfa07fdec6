use Rattle.lazy_dfa.proofs.PassedBytes.RowTableLemmas.{marked_rows}
use Rattle.lazy_dfa.proofs.accel.row_tables.RowTablesByteTest.lanes.Goals as goal

pub returns : goal.returns
returns c =
    let tables = c.args.self.now in
    marked_rows tables.below tables.above c.args.bytes c.by_low_half.result c.by_low_half-2.result c.by_high_half.result c.fits-bytes.0
    c.by_low_half.ensures c.by_low_half-2.ensures c.by_high_half.ensures
