use Rattle.std.proofs.Common.{ℕ, List, length, rules}
use Rattle.std.specs.Borrow.{Bor}
use Rattle.std.specs.Prelude.{chars}
use Rattle.std.specs.Cmp.{IsStrictWeakOrder}
use Rattle.std.proofs.lemmas.List.Sorted.{IsStrictWeakOrder-by_number, IsStrictWeakOrder-flip, answers_always}
use Rattle.grep_cli.specs.Strings.{is_longer}
use Rattle.grep_cli.proofs.longest_first.sort_by_lengths.Goals as goal

by_length : IsStrictWeakOrder {X = Bor (List ℕ)} (λ p q. is_longer p.now q.now)
by_length = IsStrictWeakOrder-flip _ (IsStrictWeakOrder-by_number (λ (p : Bor (List ℕ)). length (chars p.now)))

pub returns : goal.returns
returns c =
    record {
      same = c.sort_by.ensures.permutation;
      sorted = c.in_ok-sort_by.ensures.sorted (λ p q. is_longer p.now q.now) by_length (answers_always _ _ _ (λ f a r g h. search rules));
      stable = c.sort_by.ensures.stable (λ p q. is_longer p.now q.now) by_length (answers_always _ _ _ (λ f a r g h. search rules));
    }
