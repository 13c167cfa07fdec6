-- Lists joined with repeats dropped.
use Rattle.std.proofs.Common.{◌≡◌, true, false, Bool, List, [], ◌∷◌, ◌++◌, refl, sym, ap, ◌∙◌, ⊎_elim}
use Rattle.std.proofs.lemmas.List.{append_assoc, append-nil}
use Rattle.std.proofs.lemmas.Grind.{flat_map-append}
use Rattle.std.specs.List.{flat_map}
use Rattle.nfa_core.specs.Walks.{has, Has, IsEquality, HasNoneTwice, join}
use Rattle.nfa_core.proofs.MemberLemmas.{none_in, not_both, has_append, has_one, has_same, lacks_later, has_or_not, has_left, has_later}
use Rattle.nfa_core.proofs.MemberLemmas.{has_first, has_pushed, of_cons, of_push, into_flat_map}

pub join-append : {A : Type 0} (same : A → A → Bool) (seen xs ys : List A) → join same seen (xs ++ ys) ≡ join same (join same seen xs) ys
join-append same seen [] ys = refl
join-append same seen (x ∷ xs) ys = ⊎_elim
    (λ (e : has same x seen ≡ true). rw e (join-append same seen xs ys))
    (λ (e : has same x seen ≡ false). rw e (join-append same (seen ++ x ∷ []) xs ys)) (has_or_not same x seen)

pub join_keeps : {A : Type 0} (same : A → A → Bool) (seen xs : List A) (q : A) → Has same q seen → Has same q (join same seen xs)
join_keeps same seen [] q h = h
join_keeps same seen (x ∷ xs) q h = ⊎_elim
    (λ (e : has same x seen ≡ true). rw e (join_keeps same seen xs q h))
    (λ (e : has same x seen ≡ false). rw e (join_keeps same (seen ++ x ∷ []) xs q (has_left same q seen (x ∷ []) h)))
    (has_or_not same x seen)

module _ {A : Type 0} (same : A → A → Bool) (laws : IsEquality same) where
  -- members that are there already add nothing
  pub join_held : (seen xs : List A) → ((q : A) → Has same q xs → Has same q seen) → join same seen xs ≡ seen
  join_held seen [] all = refl
  join_held seen (x ∷ xs) all = let e : has same x seen ≡ true = all x (has_first same laws x xs) in
      rw e (join_held seen xs (λ q h. all q (has_later same q x xs h)))

  pub join_brings : (seen xs : List A) (q : A) → Has same q xs → Has same q (join same seen xs)
  join_brings seen [] q h = none_in same q _ h
  join_brings seen (x ∷ xs) q h = ⊎_elim
      (λ (e : has same x seen ≡ true). rw e (of_cons same laws (λ p. Has same p (join same seen xs)) x xs (join_keeps same seen xs x e)
      (join_brings seen xs) q h))
      (λ (e : has same x seen ≡ false). rw e (of_cons same laws (λ p. Has same p (join same (seen ++ x ∷ []) xs)) x xs
      (join_keeps same (seen ++ x ∷ []) xs x (has_pushed same laws x seen)) (join_brings (seen ++ x ∷ []) xs) q h)) (has_or_not same x seen)

  -- there are no other members than those that were there and those that come
  pub of_join : (P : A → Type 0) (seen xs : List A) → ((q : A) → Has same q seen → P q) → ((q : A) → Has same q xs → P q) → (q : A) →
      Has same q (join same seen xs) → P q
  of_join P seen [] old new q h = old q h
  of_join P seen (x ∷ xs) old new q h = ⊎_elim
      (λ (e : has same x seen ≡ true). of_join P seen xs old (λ p g. new p (has_later same p x xs g)) q (rw e at h))
      (λ (e : has same x seen ≡ false). of_join P (seen ++ x ∷ []) xs
      (of_push same laws P seen x old (new x (has_first same laws x xs))) (λ p g. new p (has_later same p x xs g)) q (rw e at h))
      (has_or_not same x seen)

module _ {A : Type 0} (same : A → A → Bool) (laws : IsEquality same) where
  lacks_pushed : (x y : A) (xs : List A) → has same y (x ∷ xs) ≡ false → has same x xs ≡ false → has same x (xs ++ y ∷ []) ≡ false
  lacks_pushed x y xs apart absent = ⊎_elim
      (λ (h : Has same x (xs ++ y ∷ [])). ⊎_elim (λ there. not_both (has same x xs) _ there absent)
      (λ last. let e : y ≡ x = sym (has_one same laws x y last) in not_both (has same y (x ∷ xs)) _ (has_same same laws y x xs e) apart)
      (has_append same x xs (y ∷ []) h))
      (λ e. e) (has_or_not same x (xs ++ y ∷ []))

  pub once_pushed : (y : A) (xs : List A) → has same y xs ≡ false → HasNoneTwice same xs → HasNoneTwice same (xs ++ y ∷ [])
  once_pushed y [] absent once = (refl, tt)
  once_pushed y (x ∷ xs) absent once = (lacks_pushed x y xs absent once.0, once_pushed y xs (lacks_later same y x xs absent) once.1)

  pub join_once : (seen xs : List A) → HasNoneTwice same seen → HasNoneTwice same (join same seen xs)
  join_once seen [] once = once
  join_once seen (x ∷ xs) once = ⊎_elim
      (λ (e : has same x seen ≡ true). rw e (join_once seen xs once))
      (λ (e : has same x seen ≡ false). rw e (join_once (seen ++ x ∷ []) xs (once_pushed x seen e once))) (has_or_not same x seen)

  -- repeats below a flat_map do not show above it
  pub join_flat_map : {B : Type 0} (same_b : B → B → Bool) (laws_b : IsEquality same_b) (g : A → List B) (t : List B) (s xs : List A) →
      join same_b t (flat_map g (join same s xs)) ≡ join same_b t (flat_map g (s ++ xs))
  join_flat_map same_b laws_b g t s [] = ap (λ l. join same_b t (flat_map g l)) (sym (append-nil s))
  join_flat_map same_b laws_b g t s (x ∷ xs) = ⊎_elim
      (λ (e : has same x s ≡ true). rw e
      (join_flat_map same_b laws_b g t s xs
      ∙ ap (join same_b t) (flat_map-append g s xs)
      ∙ join-append same_b t (flat_map g s) (flat_map g xs)
      ∙ ap (λ l. join same_b l (flat_map g xs)) (sym (join_held same_b laws_b (join same_b t (flat_map g s)) (g x)
      (λ q h. join_brings same_b laws_b t (flat_map g s) q (into_flat_map same laws same_b g s x e q h))))
      ∙ sym (join-append same_b (join same_b t (flat_map g s)) (g x) (flat_map g xs))
      ∙ sym (join-append same_b t (flat_map g s) (g x ++ flat_map g xs))
      ∙ ap (join same_b t) (sym (flat_map-append g s (x ∷ xs)))))
      (λ (e : has same x s ≡ false). rw e
      (join_flat_map same_b laws_b g t (s ++ x ∷ []) xs ∙ ap (λ l. join same_b t (flat_map g l)) (append_assoc s (x ∷ []) xs)))
      (has_or_not same x s)
