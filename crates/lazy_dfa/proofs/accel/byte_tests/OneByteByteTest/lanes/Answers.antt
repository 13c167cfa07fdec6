use Rattle.std.proofs.Common.{eqb}
use Rattle.lazy_dfa.proofs.PassedBytes.ByteTestLemmas.{marked_compared}
use Rattle.lazy_dfa.proofs.accel.byte_tests.OneByteByteTest.lanes.Goals as goal

pub returns : goal.returns
returns c = marked_compared eqb c.args.bytes c.args.self.now.0 c.fits-bytes.0
