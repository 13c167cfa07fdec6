-- Tests of a list of numbers: that each is below a bound, and that none occurs twice.
use Rattle.std.proofs.Common.{◌≡◌, ℕ, zero, suc, ◌<◌, true, false, Bool, not, List, [], ◌∷◌, refl, sym, ap, ◌∙◌, arith, All, nat_lt}
use Rattle.std.specs.Bool.{nat_eq}
use Rattle.std.specs.List.{list_all, IsDistinct}
use Rattle.nfa_core.specs.Walks.{has, HasNoneTwice}
use Rattle.determinize_core.specs.WalkLists.{is_once}
use Rattle.determinize_core.proofs.CloseAllLemmas.{distinct_from_once, once_from_distinct}
use Rattle.std.proofs.lemmas.Bool.{and_parts, not-true}

all_told : (n : ℕ) (xs : List ℕ) → list_all (λ q. nat_lt q n) xs ≡ true → All (λ q. q < n) xs
all_told n [] e k d p = absurd (omega (arith, p))
all_told n (x ∷ xs) e zero d p = let parts = and_parts (nat_lt x n) (list_all (λ q. nat_lt q n) xs) e in grind (arith, parts.0)
all_told n (x ∷ xs) e (suc k) d p = let parts = and_parts (nat_lt x n) (list_all (λ q. nat_lt q n) xs) e in
    all_told n xs parts.1 k d (omega (arith, p))

all_back : (n : ℕ) (xs : List ℕ) → All (λ q. q < n) xs → list_all (λ q. nat_lt q n) xs ≡ true
all_back n [] all = refl
all_back n (x ∷ xs) all =
    let less = all 0 0 (omega arith) in
    let first : nat_lt x n ≡ true = grind (arith, less) in
    rw first (all_back n xs (λ k d p. all (suc k) d (omega (arith, p))))

once_told : (xs : List ℕ) → is_once xs ≡ true → HasNoneTwice nat_eq xs
once_told [] e = tt
once_told (x ∷ xs) e = let parts = and_parts (not (has nat_eq x xs)) (is_once xs) e in
    (not-true (has nat_eq x xs) parts.0, once_told xs parts.1)

once_back : (xs : List ℕ) → HasNoneTwice nat_eq xs → is_once xs ≡ true
once_back [] once = refl
once_back (x ∷ xs) once = rw once.0 (once_back xs once.1)

module _ (n m : ℕ) (ids xs ys : List ℕ) (b c : Bool) (same : m ≡ n) (first : xs ≡ ids) (second : ys ≡ ids)
    (below : b ≡ list_all (λ q. nat_lt q m) xs) (once : c ≡ is_once ys) where
  abbrev Both : Type 0
  Both = All (λ q. q < n) ids × IsDistinct nat_eq ids

  below_is : b ≡ list_all (λ q. nat_lt q n) ids
  below_is = below ∙ (ap (λ (k : ℕ). list_all (λ q. nat_lt q k) xs) same ∙ ap (list_all (λ q. nat_lt q n)) first)

  once_is : c ≡ is_once ids
  once_is = once ∙ ap is_once second

  pub told_then : b ≡ true → (c ≡ true → Both) × (Both → c ≡ true)
  told_then is_below = (
    λ e. (all_told n ids (sym below_is ∙ is_below), distinct_from_once ids (once_told ids (sym once_is ∙ e))),
    λ both. once_is ∙ once_back ids (once_from_distinct ids both.1),
  )

  pub told_else : b ≡ false → (b ≡ true → Both) × (Both → b ≡ true)
  told_else none = (
    λ e. let never : false ≡ true = sym none ∙ e in absurd (grind (arith, never)),
    λ both. below_is ∙ all_back n ids both.0,
  )
