use Rattle.std.proofs.Common.{◌%◌}
use Rattle.lazy_dfa.proofs.PassedBytes.HalfTableLemmas.{low_halves, low_below, may_look_up, looked_up}
use Rattle.lazy_dfa.proofs.accel.half_tables.by_low_half.Goals as goal

pub swizzle : goal.swizzle
swizzle c =
    let bytes = c.args.bytes in
    may_look_up (λ x. x % 16) bytes c.fits-bytes.0 (low_below bytes) _ (low_halves bytes c.fits-bytes.0)

pub returns : goal.returns
returns c =
    let bytes = c.args.bytes in
    looked_up (λ x. x % 16) bytes c.fits-bytes.0 (low_below bytes) _ (low_halves bytes c.fits-bytes.0)
    c.args.table.now c.twice.result c.twice.ensures
