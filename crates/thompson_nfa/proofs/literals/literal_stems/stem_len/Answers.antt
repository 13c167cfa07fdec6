use Rattle.std.proofs.Common.{refl, arith}
use Rattle.thompson_nfa.specs.LiteralGroups.{texts}
use Rattle.thompson_nfa.proofs.LiteralTries.LiteralStemLemmas.{begin_none, stem_more}
use Rattle.thompson_nfa.proofs.literals.literal_stems.stem_len.Goals as goal

pub loop-len-init : goal.loop-len-init
loop-len-init c = (omega arith, begin_none (texts c.args.strings.now))

pub loop-len-preserved : goal.loop-len-preserved
loop-len-preserved c = (
  omega (arith, c.loop-len-test.true),
  stem_more c.args.first.now c.loop-len.len _ (texts c.args.strings.now) c.loop-len-test.true refl c.loop-len.invariant.1
      (c.if-all_have.ensures refl),
)
