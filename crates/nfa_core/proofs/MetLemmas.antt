-- Tests over the members of lists that do not depend on their order and repeats.
use Rattle.std.proofs.Common.{◌≡◌, true, false, Bool, List, [], ◌∷◌, map, refl, sym, ap, ◌∙◌, ◌||◌, ⊎_elim}
use Rattle.std.proofs.lemmas.Bool.{cases_Bool}
use Rattle.std.specs.List.{list_any}
use Rattle.nfa_core.specs.Walks.{Has, IsEquality, distinct}
use Rattle.nfa_core.proofs.MemberLemmas.{none_in, not_both, has_first, has_later, has_cons}
use Rattle.nfa_core.proofs.JoinLemmas.{join_brings, of_join}

module _ {A : Type 0} (same : A → A → Bool) (laws : IsEquality same) (test : A → Bool) where
  pub any_has : (x : A) (xs : List A) → Has same x xs → test x ≡ true → list_any test xs ≡ true
  any_has x [] h is = none_in same x _ h
  any_has x (y ∷ ys) h is = ⊎_elim (λ (e : x ≡ y). let t : test y ≡ true = ap test (sym e) ∙ is in rw t refl)
      (λ later. ⊎_elim (λ (t : test y ≡ true). rw t refl) (λ (t : test y ≡ false). rw t (any_has x ys later is)) (cases_Bool (test y)))
      (has_cons same laws x y ys h)

  pub has_any : (xs : List A) → list_any test xs ≡ true → (x : A) × Has same x xs × (test x ≡ true)
  has_any [] h = cc
  has_any (y ∷ ys) h = ⊎_elim (λ (t : test y ≡ true). (y, has_first same laws y ys, t))
      (λ (t : test y ≡ false). let g : list_any test ys ≡ true = (rw t at h) in let r = has_any ys g in
      (r.0, has_later same r.0 y ys r.1, r.2)) (cases_Bool (test y))

  any_more : (xs ys : List A) → ((q : A) → Has same q xs → Has same q ys) → list_any test xs ≡ true → list_any test ys ≡ true
  any_more xs ys all h = let r = has_any xs h in any_has r.0 ys (all r.0 r.1) r.2

  pub any_same : (xs ys : List A) → ((q : A) → Has same q xs → Has same q ys) → ((q : A) → Has same q ys → Has same q xs) →
      list_any test xs ≡ list_any test ys
  any_same xs ys to from = ⊎_elim (λ (e : list_any test ys ≡ true). any_more ys xs from e ∙ sym e)
      (λ (e : list_any test ys ≡ false). ⊎_elim (λ (h : list_any test xs ≡ true). not_both (list_any test ys) _ (any_more xs ys to h) e)
      (λ (h : list_any test xs ≡ false). h ∙ sym e) (cases_Bool (list_any test xs)))
      (cases_Bool (list_any test ys))

  pub any_distinct : (xs : List A) → list_any test (distinct same xs) ≡ list_any test xs
  any_distinct xs = any_same (distinct same xs) xs
      (λ q h. of_join same laws (λ p. Has same p xs) [] xs (λ p g. none_in same p _ g) (λ p g. g) q h)
      (λ q h. join_brings same laws [] xs q h)

pub any_map : {A B : Type 0} (test : B → Bool) (f : A → B) (xs : List A) → list_any test (map f xs) ≡ list_any (λ x. test (f x)) xs
any_map test f [] = refl
any_map test f (x ∷ xs) = ap (λ b. test (f x) || b) (any_map test f xs)
