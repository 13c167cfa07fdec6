use Rattle.std.proofs.Common.{◌∙◌, bit_or}
use Rattle.std.specs.Simd.Lanes.{zip2}
use Rattle.lazy_dfa.proofs.PassedBytes.ByteTestLemmas.{marked_either}
use Rattle.lazy_dfa.proofs.accel.byte_tests.EitherByteTest.lanes.Goals as goal

pub returns : goal.returns
returns g c =
    (λ i. zip2 bit_or (c.lanes.ensures i) (c.lanes-2.ensures i))
    ∙ marked_either (g.A.ByteTest.passes c.args.self.now.0) (g.B.ByteTest.passes c.args.self.now.1) c.args.bytes
