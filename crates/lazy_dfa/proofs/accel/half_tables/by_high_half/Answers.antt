use Rattle.std.proofs.Common.{◌/◌}
use Rattle.lazy_dfa.proofs.PassedBytes.HalfTableLemmas.{high_halves, high_below, may_look_up, looked_up}
use Rattle.lazy_dfa.proofs.accel.half_tables.by_high_half.Goals as goal

pub swizzle : goal.swizzle
swizzle c =
    let bytes = c.args.bytes in
    may_look_up (λ x. x / 16) bytes c.fits-bytes.0 (high_below bytes c.fits-bytes.0 c.fits-bytes.1) _ (high_halves bytes c.fits-bytes.0)

pub returns : goal.returns
returns c =
    let bytes = c.args.bytes in
    looked_up (λ x. x / 16) bytes c.fits-bytes.0 (high_below bytes c.fits-bytes.0 c.fits-bytes.1) _ (high_halves bytes c.fits-bytes.0)
    c.args.table.now c.twice.result c.twice.ensures
