-- A chain that returns to a vertex has a cycle. Without the cycle it has the same end.
use Rattle.std.proofs.Common.{◌≡◌, true, false, Bool, List, [], ◌∷◌, refl, sym, ◌∙◌, subst, ◌⊎◌, inl, inr, ⊎_elim}
use Rattle.std.proofs.lemmas.Bool.{cases_Bool}
use Rattle.nfa_core.specs.Walks.{has, Has, HasNoneTwice, IsEquality}
use Rattle.nfa_core.specs.Runs.{IsChain, last_or, comes_before, IsPreferred}
use Rattle.nfa_core.proofs.MemberLemmas.{none_in, not_both, has_or_not, has_cons}

module _ {A : Type 0} (same : A → A → Bool) (laws : IsEquality same) (ways : A → List A) where
  -- a chain from p that visits nothing twice and ends in x
  abbrev pub Simple : A → A → List A → Type 0
  Simple p x r = IsChain same ways p r × HasNoneTwice same (p ∷ r) × (last_or p r ≡ x)

  -- from each of its vertices, such a chain leads to x
  from_there : (z p x : A) (r : List A) → Has same z (p ∷ r) → Simple p x r → (s : List A) × Simple z x s
  from_there z p x [] h simple =
      let S : A → Type 0 = λ w. (s : List A) × Simple w x s in
      ⊎_elim (λ (e : z ≡ p). subst S (sym e) ([], simple)) (λ none. none_in same z _ none) (has_cons same laws z p [] h)
  from_there z p x (q ∷ r) h simple =
      let S : A → Type 0 = λ w. (s : List A) × Simple w x s in
      ⊎_elim (λ (e : z ≡ p). subst S (sym e) (q ∷ r, simple))
      (λ later. from_there z q x r later (simple.0.1, simple.1.1, simple.2)) (has_cons same laws z p (q ∷ r) h)

  -- each chain has the end of some chain without repeats
  pub without_rounds : (p : A) (r : List A) → IsChain same ways p r → (s : List A) × Simple p (last_or p r) s
  without_rounds p [] chain = ([], (tt, (refl, tt), refl))
  without_rounds p (q ∷ r) chain =
      let rest = without_rounds q r chain.1 in
      ⊎_elim (λ (back : Has same p (q ∷ rest.0)). from_there p q (last_or q r) rest.0 back rest.1)
      (λ (off : has same p (q ∷ rest.0) ≡ false). (q ∷ rest.0, ((chain.0, rest.1.0), (off, rest.1.1), rest.1.2)))
      (has_or_not same p (q ∷ rest.0))

  -- ---- preference

  not_itself : (q : A) (xs : List A) → comes_before same q q xs ≡ true → ⊥
  not_itself q [] h = cc
  not_itself q (x ∷ xs) h = ⊎_elim (λ (e : same x q ≡ true). let f : false ≡ true = (rw e at h) in cc)
      (λ (e : same x q ≡ false). not_itself q xs (rw e at h)) (cases_Bool (same x q))

  not_round : (q o : A) (xs : List A) → comes_before same q o xs ≡ true → comes_before same o q xs ≡ true → ⊥
  not_round q o [] h g = cc
  not_round q o (x ∷ xs) h g = ⊎_elim (λ (e : same x o ≡ true). let f : false ≡ true = (rw e at h) in cc)
      (λ (e : same x o ≡ false). ⊎_elim (λ (i : same x q ≡ true). let f : false ≡ true = (rw i at g) in cc)
      (λ (i : same x q ≡ false). not_round q o xs (rw (e, i) at h) (rw (i, e) at g)) (cases_Bool (same x q))) (cases_Bool (same x o))

  either_first : (q o : A) (xs : List A) → Has same q xs → (q ≡ o) ⊎ ((comes_before same q o xs ≡ true) ⊎ (comes_before same o q xs ≡ true))
  either_first q o [] h = none_in same q _ h
  either_first q o (x ∷ xs) h = ⊎_elim
      (λ (e : same x o ≡ true). ⊎_elim
      (λ (i : same x q ≡ true). inl (sym ((laws x q).0 i) ∙ (laws x o).0 e))
      (λ (i : same x q ≡ false). inr (inr (rw (i, e) refl))) (cases_Bool (same x q)))
      (λ (e : same x o ≡ false). ⊎_elim
      (λ (i : same x q ≡ true). inr (inl (rw (e, i) refl)))
      (λ (i : same x q ≡ false). let apart : same q x ≡ false = ⊎_elim
      (λ (t : same q x ≡ true). not_both (same x q) _ ((laws x q).1 (sym ((laws q x).0 t))) i) (λ f. f) (cases_Bool (same q x)) in
      let later : Has same q xs = (rw apart at h) in
      ⊎_elim inl (λ reported. inr (⊎_elim (λ (a : comes_before same q o xs ≡ true). inl (rw (e, i, a) refl))
      (λ (b : comes_before same o q xs ≡ true). inr (rw (i, e, b) refl)) reported)) (either_first q o xs later))
      (cases_Bool (same x q))) (cases_Bool (same x o))

  -- no two runs are each preferred to the other, and no run is preferred to itself
  pub preferred_one_way : (p : A) (r s : List A) → IsPreferred same ways p r s → IsPreferred same ways p s r → ⊥
  preferred_one_way p [] [] a b = absurd a
  preferred_one_way p [] (o ∷ s) a b = absurd b
  preferred_one_way p (q ∷ r) [] a b = absurd a
  preferred_one_way p (q ∷ r) (o ∷ s) a b = ⊎_elim
      (λ way. ⊎_elim (λ back. not_round q o (ways p) way back) (λ (e, _b). not_itself q (ways p) (let C : A →
      Type 0 = λ w. comes_before same q w (ways p) ≡ true in subst C e way)) b)
      (λ (e, on). ⊎_elim (λ back. not_itself q (ways p) (let C : A → Type 0 = λ w. comes_before same w q (ways p) ≡ true in
      subst C (sym e) back))
      (λ (_e, back). preferred_one_way q r s on (let P : A → Type 0 = λ w. IsPreferred same ways w s r in subst P (sym e) back)) b) a

  -- of a chain and a run that differ, one is preferred
  pub one_is_preferred : (p : A) (r s : List A) → IsChain same ways p r → (r ≡ s) ⊎
      (IsPreferred same ways p r s ⊎ IsPreferred same ways p s r)
  one_is_preferred p [] [] chain = inl refl
  one_is_preferred p [] (o ∷ s) chain = inr (inl tt)
  one_is_preferred p (q ∷ r) [] chain = inr (inr tt)
  one_is_preferred p (q ∷ r) (o ∷ s) chain = ⊎_elim
      (λ (e : q ≡ o). ⊎_elim (λ (same_rest : r ≡ s). inl (rw (e, same_rest) refl))
      (λ reported. inr (⊎_elim (λ a. inl (inr (e, a))) (λ b. inr (inr (
        sym e,
        (let P : A → Type 0 = λ w. IsPreferred same ways w s r in subst P e b),
      ))) reported)) (one_is_preferred q r s chain.1))
      (λ reported. inr (⊎_elim (λ a. inl (inl a)) (λ b. inr (inl b)) reported)) (either_first q o (ways p) chain.0)
