use Rattle.lazy_dfa.proofs.PassedBytes.ByteTestLemmas.{marked_range}
use Rattle.lazy_dfa.proofs.accel.byte_tests.ByteRangeByteTest.lanes.Goals as goal

pub returns : goal.returns
returns c = marked_range c.args.bytes c.args.self.now.first c.args.self.now.behind c.fits-bytes.0
