use Rattle.std.proofs.Common.{take}
use Rattle.line_search.specs.FewerWords.{AreEnoughOf}
use Rattle.line_search.proofs.FewerWordLemmas.{words_at}
use Rattle.line_search.proofs.fewer_words.enough_of.Given as goal

abbrev pub invariant-loop-word : goal.invariant-loop-word
invariant-loop-word l = AreEnoughOf (words_at (take l.word-index l.words)) (words_at l.kept.items)
