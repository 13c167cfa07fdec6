-- What the counts of lists of trees and of classes of scalars have room for. A state that was added without an error could be numbered.
use Rattle.std.proofs.Common.{◌≡◌, ℕ, zero, suc, ◌+◌, ◌*◌, ◌<◌, ◌≤◌, min, List, [], ◌∷◌, length, take, ap, ◌∙◌}
use Rattle.std.proofs.Common.{arith, refl, Some, None, Option, nat_lt, inl, inr}
use Rattle.std.proofs.Common.{get_or}
use Rattle.std.specs.List.{sum_by}
use Rattle.std.proofs.lemmas.Bool.{cases_lt, cond-true, lt-ltb}
use Rattle.std.proofs.lemmas.List.Sums.{sum_by-cons}
use Rattle.search_core.specs.Index.{greatest_index}
use Rattle.search_types.proofs.ForCallers.{none_first}
use Rattle.hir_core.specs.Tree.{Tree, char_class, alternation}
use Rattle.hir_core.specs.Facts.{count, capped, sequence_count}
use Rattle.hir_core.specs.Sequences.{utf8_sequences}
use Rattle.nfa_core.specs.BuilderStates.{DraftNode}
use Rattle.nfa_core.specs.BuilderStates.{Assembly}
use Rattle.nfa_core.specs.BuilderFaults.{too_many_states, add_fault, state_count_fault}

-- ---- what the count of a tree has room for
capped_more : (a b c : ℕ) → a + b ≡ c → capped (a + capped b) ≡ capped c
capped_more a b c e = omega arith

pub alternation_count : (xs : List Tree) → count (alternation xs) ≡ capped (sum_by count xs + 4)
alternation_count [] = refl
alternation_count (x ∷ xs) = ap (λ n. capped (count x + n)) (alternation_count xs)
    ∙ capped_more (count x) (sum_by count xs + 4) (sum_by count (x ∷ xs) + 4) (omega (arith, sum_by-cons count x xs))

-- So many states of the forms, by the counts of their parts, are within the count of the whole, as far as the count goes.
module _ (n : ℕ) where
  pub fits_char_class : (ranges : List (ℕ × ℕ)) → n ≤ 2 + 4 * sequence_count ranges → min n 18446744073709551615 ≤ count (char_class ranges)
  fits_char_class ranges h = omega (arith, h)

-- ---- sequences of ranges

pub sequence_count_take : (ranges : List (ℕ × ℕ)) (i : ℕ) (d : ℕ × ℕ) → i < length ranges →
    sequence_count (take (i + 1) ranges) ≡ sequence_count (take i ranges) + length
    (utf8_sequences (get_or ranges i d).0 (get_or ranges i d).1)
sequence_count_take [] i d h = absurd (omega (arith, h))
sequence_count_take (x ∷ xs) zero d h = omega arith
sequence_count_take (x ∷ xs) (suc i) d h =
    let e : suc i + 1 ≡ suc (i + 1) = omega arith in
    ap (λ n. sequence_count (take n (x ∷ xs))) e ∙ omega (arith, sequence_count_take xs i d (omega (arith, h)))

pub sequence_count_some : (ranges : List (ℕ × ℕ)) (i : ℕ) → sequence_count (take i ranges) ≤ sequence_count ranges
sequence_count_some [] zero = omega arith
sequence_count_some [] (suc i) = omega arith
sequence_count_some (x ∷ xs) zero = omega arith
sequence_count_some (x ∷ xs) (suc i) = omega (arith, sequence_count_some xs i)

-- ---- a state that is added without an error

refused_and_not : {A : Type 0} (o : Option A) (x : A) → o ≡ None → o ≡ Some x → ⊥
refused_and_not None x e f = absurd (grind (arith, f))
refused_and_not (Some y) x e f = absurd (grind (arith, e))

-- a state that is added without an error could be numbered
pub numbered : (b : Assembly) (draft : DraftNode) → add_fault b draft ≡ None → length b.drafts ≤ greatest_index
numbered b draft h = elim (cases_lt greatest_index (length b.drafts)) [
  | inl l ↦ absurd (refused_and_not (state_count_fault b.drafts) too_many_states (none_first (state_count_fault b.drafts) _ h)
      (cond-true (nat_lt greatest_index (length b.drafts)) _ _ (lt-ltb greatest_index (length b.drafts) l)))
  | inr l ↦ l
]
