-- The part of a list that a test keeps. An element of the list has a position there: the number of elements that are kept before it.
use Rattle.std.proofs.Common.{◌≡◌, ℕ, zero, suc, ◌<◌, true, false, Bool, List, [], ◌∷◌, length, take, get_or, map, refl, ap, arith, ⊎_elim}
use Rattle.std.proofs.lemmas.Bool.{cases_Bool}
use Rattle.std.specs.List.{filter}

module _ {A : Type 0} (keep : A → Bool) where
  abbrev pub rank : List A → ℕ → ℕ
  rank xs q = length (filter keep (take q xs))

  pub rank_inside : (xs : List A) (q : ℕ) (d : A) → q < length xs → keep (get_or xs q d) ≡ true → rank xs q < length (filter keep xs)
  rank_inside [] q d inside is = absurd (omega (arith, inside))
  rank_inside (x ∷ xs) zero d inside is = rw is (omega arith)
  rank_inside (x ∷ xs) (suc q) d inside is =
      let l : rank xs q < length (filter keep xs) = rank_inside xs q d (omega (arith, inside)) is in
      ⊎_elim (λ (e : keep x ≡ true). rw e (omega (arith, l))) (λ (e : keep x ≡ false). rw e l) (cases_Bool (keep x))

  pub at_rank : {B : Type 0} (f : A → B) (xs : List A) (q : ℕ) (d : A) (none : B) → q < length xs → keep (get_or xs q d) ≡ true →
      get_or (map f (filter keep xs)) (rank xs q) none ≡ f (get_or xs q d)
  at_rank f [] q d none inside is = absurd (omega (arith, inside))
  at_rank f (x ∷ xs) zero d none inside is = rw is
  at_rank f (x ∷ xs) (suc q) d none inside is =
      let l : get_or (map f (filter keep xs)) (rank xs q) none ≡ f (get_or xs q d) = at_rank f xs q d none (omega (arith, inside)) is in
      ⊎_elim (λ (e : keep x ≡ true). rw e l) (λ (e : keep x ≡ false). rw e l) (cases_Bool (keep x))

  -- what is kept has a position of its own
  first_rank : (x : A) (xs : List A) (q : ℕ) → keep x ≡ true → 0 < rank (x ∷ xs) (suc q)
  first_rank x xs q is = rw is (omega arith)

  pub one_rank : (xs : List A) (p q : ℕ) (d : A) → p < length xs → q < length xs → keep (get_or xs p d) ≡ true →
      keep (get_or xs q d) ≡ true →
      rank xs p ≡ rank xs q → p ≡ q
  one_rank [] p q d inside_p inside_q is_p is_q e = absurd (omega (arith, inside_p))
  one_rank (x ∷ xs) zero zero d inside_p inside_q is_p is_q e = refl
  one_rank (x ∷ xs) zero (suc q) d inside_p inside_q is_p is_q e =
      let l : 0 < rank (x ∷ xs) (suc q) = first_rank x xs q is_p in absurd (omega (arith, e, l))
  one_rank (x ∷ xs) (suc p) zero d inside_p inside_q is_p is_q e =
      let l : 0 < rank (x ∷ xs) (suc p) = first_rank x xs p is_q in absurd (omega (arith, e, l))
  one_rank (x ∷ xs) (suc p) (suc q) d inside_p inside_q is_p is_q e =
      let same : rank xs p ≡ rank xs q = ⊎_elim
      (λ (k : keep x ≡ true). let g : suc (rank xs p) ≡ suc (rank xs q) = (rw k at e) in omega (arith, g))
      (λ (k : keep x ≡ false). (rw k at e)) (cases_Bool (keep x)) in
      ap (λ n. suc n) (one_rank xs p q d (omega (arith, inside_p)) (omega (arith, inside_q)) is_p is_q same)

  -- each position is that of an element that is kept
  abbrev pub Ranked : List A → A → ℕ → Type 0
  Ranked xs d k = (q : ℕ) × (q < length xs) × (keep (get_or xs q d) ≡ true) × (rank xs q ≡ k)

  later : (x : A) (xs : List A) (d : A) (k : ℕ) → keep x ≡ true → Ranked xs d k → Ranked (x ∷ xs) d (suc k)
  later x xs d k is r = let l : r.0 < length xs = r.1 in (suc r.0, omega (arith, l), r.2, rw is (ap (λ n. suc n) r.3))

  passed : (x : A) (xs : List A) (d : A) (k : ℕ) → keep x ≡ false → Ranked xs d k → Ranked (x ∷ xs) d k
  passed x xs d k is r = let l : r.0 < length xs = r.1 in (suc r.0, omega (arith, l), r.2, rw is r.3)

  pub ranked : (xs : List A) (d : A) (k : ℕ) → k < length (filter keep xs) → Ranked xs d k
  ranked [] d k inside = absurd (omega (arith, inside))
  ranked (x ∷ xs) d zero inside = ⊎_elim
      (λ (e : keep x ≡ true). (0, omega arith, e, refl))
      (λ (e : keep x ≡ false). let l : 0 < length (filter keep xs) = (rw e at inside) in
      passed x xs d 0 e (ranked xs d 0 l)) (cases_Bool (keep x))
  ranked (x ∷ xs) d (suc k) inside = ⊎_elim
      (λ (e : keep x ≡ true). let l : suc k < suc (length (filter keep xs)) = (rw e at inside) in
      later x xs d k e (ranked xs d k (omega (arith, l))))
      (λ (e : keep x ≡ false). let l : suc k < length (filter keep xs) = (rw e at inside) in
      passed x xs d (suc k) e (ranked xs d (suc k) l)) (cases_Bool (keep x))
