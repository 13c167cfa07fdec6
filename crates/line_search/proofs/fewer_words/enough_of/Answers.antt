use Rattle.std.proofs.Common.{arith}
use Rattle.line_search.proofs.FewerWordLemmas.{enough_of_all, word_kept, word_passed}
use Rattle.line_search.proofs.fewer_words.enough_of.Goals as goal

pub loop-word-preserved : goal.loop-word-preserved
loop-word-preserved c =
    word_kept c.args.words.now c.loop-word.kept.items c.push.new.self.items c.loop-word.word-index _ c.loop-word-test.true
    c.loop-word.invariant c.in_ok-push.ensures.items

pub loop-word-preserved-then-begins_with_last : goal.loop-word-preserved-then-begins_with_last
loop-word-preserved-then-begins_with_last c =
    word_passed c.args.words.now c.loop-word.kept.items c.deref.result.now c.loop-word.word-index _ c.loop-word-test.true
    c.loop-word.invariant c.deref.ensures.value (c.begins_with_last.ensures c.if-begins_with_last.true)

pub returns : goal.returns
returns c =
    enough_of_all c.args.words.now c.loop-word.kept.items c.loop-word.word-index (omega (arith, c.loop-word-test.false)) c.loop-word.invariant
