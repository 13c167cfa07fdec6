use Rattle.std.proofs.Common.{arith, eqb, w8}
use Rattle.std.proofs.lemmas.Simd.{bitmask_splat}
use Rattle.line_search.proofs.feeds.marks_of.Goals as goal

pub returns : goal.returns
returns c = bitmask_splat w8 eqb c.args.bytes 32 10 c.fits-bytes.0 (omega arith)
