use Rattle.std.proofs.Common.{[], refl}
use Rattle.thompson_nfa.proofs.LiteralTries.LiteralStemLemmas.{have_next}
use Rattle.thompson_nfa.proofs.literals.literal_stems.all_have.Goals as goal

pub loop-string-preserved : goal.loop-string-preserved
loop-string-preserved c = have_next c.args.at c.args.byte c.args.strings.now c.loop-string.string-index (record {
  ref_ptr = (0, 0);
  now = [];
}) c.loop-string-test.true c.loop-string.invariant (c.if-not-has_at.ensures refl)
