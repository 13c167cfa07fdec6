use Rattle.std.proofs.Common.{◌∙◌, sym, arith}
use Rattle.std.proofs.lemmas.Bool.{eqb-true}
use Rattle.lazy_dfa.proofs.PassedBytes.ByteTestLemmas.{none_in_four}
use Rattle.lazy_dfa.proofs.accel.byte_tests.none_passes.Goals as goal

pub returns : goal.returns
returns g c reported =
    none_in_four (g.T.ByteTest.passes c.args.test.now) c.args.haystack.now c.args.at (omega arith) _ _ _ _
    c.marks_at.ensures c.marks_at-2.ensures c.marks_at-3.ensures c.marks_at-4.ensures
    (sym c.bits_of.ensures ∙ eqb-true c.bits_of.result 0 reported)
