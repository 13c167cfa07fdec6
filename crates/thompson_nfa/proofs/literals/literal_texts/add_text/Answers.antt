use Rattle.std.proofs.Common.{refl, arith, length}
use Rattle.thompson_nfa.proofs.LiteralTries.LiteralTextLemmas.{text_begun, text_more}
use Rattle.thompson_nfa.proofs.literals.literal_texts.add_text.Goals as goal

pub loop-i-init : goal.loop-i-init
loop-i-init c = (text_begun c.args.builder.now c.args.next c.args.text.now (length c.args.text.now) (omega arith), omega arith)

pub loop-i-preserved : goal.loop-i-preserved
loop-i-preserved c = (
  text_more c.args.builder.now c.loop-i.builder c.args.next c.args.text.now c.loop-i.id _ c.loop-i.i refl (omega (
    arith,
    c.loop-i-test.true,
  )) c.loop-i.invariant.1 c.loop-i.invariant.0 c.requires c.add_byte.new.builder _ c.in_ok-id.id refl
      c.in_ok-id.ensures,
  omega (arith, c.loop-i.invariant.1),
)
