-- Members of lists, by a test that decides equality.
use Rattle.std.proofs.Common.{◌≡◌, true, false, Bool, List, [], ◌∷◌, ◌++◌, refl, sym, ap, ◌∙◌, ◌⊎◌, inl, inr, ⊎_elim}
use Rattle.std.proofs.lemmas.Bool.{cases_Bool}
use Rattle.std.specs.List.{flat_map}
use Rattle.std.proofs.lemmas.Grind.{flat_map-append}
use Rattle.nfa_core.specs.Walks.{has, Has, IsEquality}

pub none_in : {A : Type 0} (same : A → A → Bool) (q : A) (P : Type 0) → Has same q [] → P
none_in same q P h = let f : false ≡ true = h in cc

pub has_or_not : {A : Type 0} (same : A → A → Bool) (q : A) (xs : List A) → Has same q xs ⊎ (has same q xs ≡ false)
has_or_not same q xs = cases_Bool (has same q xs)

pub not_both : (b : Bool) (P : Type 0) → b ≡ true → b ≡ false → P
not_both b P t e = let f : true ≡ false = sym t ∙ e in cc

pub has_append : {A : Type 0} (same : A → A → Bool) (q : A) (xs ys : List A) → Has same q (xs ++ ys) → Has same q xs ⊎ Has same q ys
has_append same q [] ys h = inr h
has_append same q (x ∷ xs) ys h = ⊎_elim (λ (e : same q x ≡ true). inl (rw e))
    (λ (e : same q x ≡ false). let g : Has same q (xs ++ ys) = (rw e at h) in
    ⊎_elim (λ (a : Has same q xs). inl (rw (e, a))) inr (has_append same q xs ys g)) (cases_Bool (same q x))

pub has_left : {A : Type 0} (same : A → A → Bool) (q : A) (xs ys : List A) → Has same q xs → Has same q (xs ++ ys)
has_left same q [] ys h = none_in same q _ h
has_left same q (x ∷ xs) ys h = ⊎_elim (λ (e : same q x ≡ true). rw e)
    (λ (e : same q x ≡ false). let g : Has same q xs = (rw e at h) in rw e (has_left same q xs ys g)) (cases_Bool (same q x))

pub has_right : {A : Type 0} (same : A → A → Bool) (q : A) (xs ys : List A) → Has same q ys → Has same q (xs ++ ys)
has_right same q [] ys h = h
has_right same q (x ∷ xs) ys h = ⊎_elim (λ (e : same q x ≡ true). rw e) (λ (e : same q x ≡ false). rw e (has_right same q xs ys h))
    (cases_Bool (same q x))

pub has_later : {A : Type 0} (same : A → A → Bool) (q x : A) (xs : List A) → Has same q xs → Has same q (x ∷ xs)
has_later same q x xs h = has_right same q (x ∷ []) xs h

pub lacks_later : {A : Type 0} (same : A → A → Bool) (q x : A) (xs : List A) → has same q (x ∷ xs) ≡ false → has same q xs ≡ false
lacks_later same q x xs h = ⊎_elim (λ (e : Has same q xs). not_both (has same q (x ∷ xs)) _ (has_later same q x xs e) h) (λ e. e)
    (has_or_not same q xs)

module _ {A : Type 0} (same : A → A → Bool) (laws : IsEquality same) where
  pub has_cons : (q x : A) (xs : List A) → Has same q (x ∷ xs) → (q ≡ x) ⊎ Has same q xs
  has_cons q x xs h = ⊎_elim (λ e. inl ((laws q x).0 e)) (λ (e : same q x ≡ false). inr (rw e at h)) (cases_Bool (same q x))

  pub has_first : (q : A) (xs : List A) → Has same q (q ∷ xs)
  has_first q xs = let e : same q q ≡ true = (laws q q).1 refl in rw e

  pub has_same : (q x : A) (xs : List A) → q ≡ x → Has same q (x ∷ xs)
  has_same q x xs e = let t : same q x ≡ true = (laws q x).1 e in rw t

  pub has_one : (q x : A) → Has same q (x ∷ []) → q ≡ x
  has_one q x h = ⊎_elim (λ (e : q ≡ x). e) (λ none. none_in same q _ none) (has_cons q x [] h)

  -- what holds of x and of all members of a list holds of all members of the longer list
  pub of_cons : (P : A → Type 0) (x : A) (xs : List A) → P x → ((q : A) → Has same q xs → P q) → (q : A) → Has same q (x ∷ xs) → P q
  of_cons P x xs one all q h = ⊎_elim (λ (e : q ≡ x). rw e one) (λ g. all q g) (has_cons q x xs h)

  pub of_append : (P : A → Type 0) (xs ys : List A) → ((q : A) → Has same q xs → P q) → ((q : A) → Has same q ys → P q) → (q : A) →
      Has same q (xs ++ ys) → P q
  of_append P xs ys left right q h = ⊎_elim (λ g. left q g) (λ g. right q g) (has_append same q xs ys h)

  pub of_push : (P : A → Type 0) (xs : List A) (x : A) → ((q : A) → Has same q xs → P q) → P x → (q : A) → Has same q (xs ++ x ∷ []) → P q
  of_push P xs x all one q h = of_append P xs (x ∷ []) all (of_cons P x [] one (λ p g. none_in same p _ g)) q h

  pub has_pushed : (x : A) (xs : List A) → Has same x (xs ++ x ∷ [])
  has_pushed x xs = has_right same x xs (x ∷ []) (has_first x [])

  pub lacks : (x : A) (xs ys : List A) → has same x ys ≡ false → ((q : A) → Has same q xs → Has same q ys) → has same x xs ≡ false
  lacks x xs ys absent all = ⊎_elim (λ (e : Has same x xs). not_both (has same x ys) _ (all x e) absent) (λ e. e) (has_or_not same x xs)

  pub flat_map_same : {B : Type 0} (f g : A → List B) (xs : List A) → ((x : A) → Has same x xs → f x ≡ g x) → flat_map f xs ≡ flat_map g xs
  flat_map_same f g [] all = refl
  flat_map_same f g (x ∷ xs) all = ap (λ l. l ++ flat_map f xs) (all x (has_first x xs))
      ∙ ap (λ l. g x ++ l) (flat_map_same f g xs (λ y h. all y (has_later same y x xs h)))

  -- what holds of all members of g x, for each x in a list, holds of all members of the concatenated list
  pub of_flat_map : {B : Type 0} (same_b : B → B → Bool) (g : A → List B) (P : B → Type 0) (xs : List A) →
      ((x : A) → Has same x xs → (q : B) → Has same_b q (g x) → P q) → (q : B) → Has same_b q (flat_map g xs) → P q
  of_flat_map same_b g P [] all q h = none_in same_b q _ h
  of_flat_map same_b g P (x ∷ xs) all q h = ⊎_elim (λ now. all x (has_first x xs) q now)
      (λ later. of_flat_map same_b g P xs (λ y there. all y (has_later same y x xs there)) q later)
      (has_append same_b q (g x) (flat_map g xs) h)

  pub into_flat_map : {B : Type 0} (same_b : B → B → Bool) (g : A → List B) (xs : List A) (x : A) → Has same x xs → (q : B) →
      Has same_b q (g x) → Has same_b q (flat_map g xs)
  into_flat_map same_b g [] x there q h = none_in same x _ there
  into_flat_map same_b g (y ∷ ys) x there q h = ⊎_elim
      (λ (e : x ≡ y). has_left same_b q (g y) (flat_map g ys) (rw e at h))
      (λ later. has_right same_b q (g y) (flat_map g ys) (into_flat_map same_b g ys x later q h)) (has_cons x y ys there)

pub flat_map_twice : {A B C : Type 0} (f : B → List C) (g : A → List B) (xs : List A) →
    flat_map f (flat_map g xs) ≡ flat_map (λ y. flat_map f (g y)) xs
flat_map_twice f g [] = refl
flat_map_twice f g (x ∷ xs) = flat_map-append f (g x) (flat_map g xs) ∙ ap (λ l. flat_map f (g x) ++ l) (flat_map_twice f g xs)
