use Rattle.std.proofs.Common.{Bor, List, ℕ, subst}
use Rattle.line_search.specs.FewerWords.{AreEnoughOf}
use Rattle.line_search.proofs.FewerWordLemmas.{enough_sorted, words_at}
use Rattle.line_search.proofs.fewer_words.fewest_of.Goals as goal

pub returns-in-Ok : goal.returns-in-Ok
returns-in-Ok c =
    enough_sorted c.args.words.now.items c.sort_unstable.new.self.items (words_at c.in-Ok.kept.items) c.sort_unstable.ensures.permutation
    (subst (λ (ts : List (Bor (List ℕ))). AreEnoughOf (words_at ts) (words_at c.in-Ok.kept.items)) c.deref.ensures.value c.in-Ok.ensures)
