use Rattle.std.proofs.Common.{arith, eqb, not, w8}
use Rattle.std.proofs.lemmas.Simd.{bitmask_splat}
use Rattle.lazy_dfa.proofs.accel.byte_tests.bits_of.Goals as goal

pub returns : goal.returns
returns c = bitmask_splat w8 (λ x y. not (eqb x y)) c.args.lanes 32 0 c.fits-lanes.0 (omega arith)
