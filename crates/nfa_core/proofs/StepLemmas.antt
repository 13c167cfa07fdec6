-- Depth-first searches split and put together: over concatenated lists, and with edges that become known late.
use Rattle.std.proofs.Common.{◌≡◌, false, Bool, List, [], ◌∷◌, ◌++◌, refl, sym, ap, ◌∙◌, subst, ◌⊎◌, inl, inr, ⊎_elim}
use Rattle.std.proofs.lemmas.List.{append_assoc, append-nil}
use Rattle.nfa_core.specs.Walks.{has, Has, Visits, done, held, fresh, IsEquality, IsClosed}
use Rattle.nfa_core.proofs.MemberLemmas.{none_in, not_both, has_left, has_right, has_first, has_later, has_pushed, of_push}
use Rattle.nfa_core.proofs.WalkLemmas.{kept, followed, closed}

module _ {A : Type 0} (same : A → A → Bool) (ways : A → List A) where
  -- the two ways in which a depth-first search begins
  pub begun : {x : A} {stack seen after : List A} → Visits same ways (x ∷ stack) seen after →
      (Has same x seen × Visits same ways stack seen after)
      ⊎ ((mid : List A) × (has same x seen ≡ false) × Visits same ways (ways x) (seen ++ x ∷ []) mid × Visits same ways stack mid after)
  begun (held x stack seen after there rest) = inl (there, rest)
  begun (fresh x stack seen mid after absent one two) = inr (mid, absent, one, two)

  pub ended : {seen after : List A} → Visits same ways [] seen after → seen ≡ after
  ended (done seen after e) = e

  pub split : (xs ys seen after : List A) → Visits same ways (xs ++ ys) seen after → (mid : List A) × Visits same ways xs seen mid ×
      Visits same ways ys mid after
  split [] ys seen after v = (seen, done seen seen refl, v)
  split (x ∷ xs) ys seen after v = ⊎_elim
      (λ (there, rest). let s = split xs ys seen after rest in (s.0, held x xs seen s.0 there s.1, s.2))
      (λ (mid, absent, one, two). let s = split xs ys mid after two in (s.0, fresh x xs seen mid s.0 absent one s.1, s.2)) (begun v)

  pub joined : (xs ys seen mid after : List A) → Visits same ways xs seen mid → Visits same ways ys mid after →
      Visits same ways (xs ++ ys) seen after
  joined [] ys seen mid after v w = let e : seen ≡ mid = ended v in rw e w
  joined (x ∷ xs) ys seen mid after v w = ⊎_elim
      (λ (there, rest). held x (xs ++ ys) seen after there (joined xs ys seen mid after rest w))
      (λ (m, absent, one, two). fresh x (xs ++ ys) seen m after absent one (joined xs ys m mid after two w)) (begun v)

  -- the search of a stack: the edges of a new vertex come before the rest of the stack
  pub fresh_on_stack : (x : A) (rest seen after : List A) → has same x seen ≡ false →
      Visits same ways (ways x ++ rest) (seen ++ x ∷ []) after → Visits same ways (x ∷ rest) seen after
  fresh_on_stack x rest seen after absent v = let s = split (ways x) rest (seen ++ x ∷ []) after v in
      fresh x rest seen s.0 after absent s.1 s.2

  -- two searches from one stack and one set end with one list
  pub one_after : {stack seen a : List A} → Visits same ways stack seen a → (b : List A) → Visits same ways stack seen b → a ≡ b
  one_after (done seen a e) b w = sym e ∙ ended w
  one_after (held x stack seen a there rest) b w = ⊎_elim (λ (_t, v). one_after rest b v)
      (λ (m, absent, one, two). not_both (has same x seen) _ there absent) (begun w)
  one_after (fresh x stack seen mid a absent first rest) b w = ⊎_elim (λ (there, v). not_both (has same x seen) _ there absent)
      (λ (m, _a, one, two). let e : mid ≡ m = one_after first m one in
      one_after rest b (let V : List A → Type 0 = λ l. Visits same ways stack l b in subst V (sym e) two)) (begun w)

module _ {A : Type 0} (same : A → A → Bool) (laws : IsEquality same) (ways : A → List A) where
  pub all_held : (xs ys seen after : List A) → ((q : A) → Has same q xs → Has same q seen) → Visits same ways ys seen after →
      Visits same ways (xs ++ ys) seen after
  all_held [] ys seen after all v = v
  all_held (x ∷ xs) ys seen after all v = held x (xs ++ ys) seen after (all x (has_first same laws x xs))
      (all_held xs ys seen after (λ q h. all q (has_later same q x xs h)) v)

  -- a search whose stack and visited vertices are in a set does not leave it, if the set is closed under its edges
  pub within : {stack seen after : List A} → Visits same ways stack seen after → (c : List A) → IsClosed same ways c →
      ((q : A) → Has same q stack → Has same q c) → ((q : A) → Has same q seen → Has same q c) → (q : A) → Has same q after → Has same q c
  within (done seen after e) c shut inside low q h = low q (rw e h)
  within (held x stack seen after there rest) c shut inside low q h = within rest c shut
      (λ p g. inside p (has_later same p x stack g)) low q h
  within (fresh x stack seen mid after absent one two) c shut inside low q h =
      let x_in : Has same x c = inside x (has_first same laws x stack) in
      within two c shut (λ p g. inside p (has_later same p x stack g))
      (within one c shut (shut x x_in) (of_push same laws (λ p. Has same p c) seen x low x_in)) q h

module _ {A : Type 0} (same : A → A → Bool) (laws : IsEquality same) (known full : A → List A) where
  -- The list that a search under fewer edges adds can stand for the stack of that search: a search of it under all edges, from a closed
  -- set, ends with the list with which the search of the stack does.
  anew : ((x z : A) → Has same z (known x) → Has same z (full x)) → {stack seen ids : List A} → Visits same known stack seen ids →
      (new : List A) × (ids ≡ seen ++ new) ×
      ((s a : List A) → Visits same full stack s a → ((q : A) → Has same q seen → Has same q s) → IsClosed same full s →
      Visits same full new s a)
  anew grows (done seen ids e) = ([], sym e ∙ sym (append-nil seen), λ s a v sub shut. v)
  anew grows (held x stack seen ids there rest) =
      let r = anew grows rest in (
        r.0,
        r.1,
        λ s a v sub shut. ⊎_elim (λ (in_s, w). r.2 s a w sub shut)
            (λ (mid, absent, one, two). not_both (has same x s) _ (sub x there) absent) (begun same full v),
      )
  anew grows (fresh x stack seen mid ids absent first rest) =
      let a = anew grows first in
      let b = anew grows rest in
      let is_mid : mid ≡ (seen ++ x ∷ []) ++ a.0 = a.1 in
      let Result : List A → List A → Type 0 = λ s end. Visits same full (x ∷ (a.0 ++ b.0)) s end in
      let new_in_mid = λ (q : A) (h : Has same q a.0). let g : Has same q ((seen ++ x ∷ []) ++ a.0) =
      has_right same q (seen ++ x ∷ []) a.0 h in let K : List A → Type 0 = λ l. Has same q l in subst K (sym is_mid) g in (
        x ∷ (a.0 ++ b.0),
        b.1 ∙ ap (λ l. l ++ b.0) is_mid ∙ append_assoc (seen ++ x ∷ []) a.0 b.0 ∙ append_assoc seen (x ∷ []) (a.0 ++ b.0),
        λ s end v sub shut. ⊎_elim
            (λ (there, w).
            let mid_in = within same laws known first s (λ y h z g. shut y h z (grows y z g)) (λ z g. shut x there z (grows x z g))
            (of_push same laws (λ q. Has same q s) seen x sub there) in
            let r : Result s end = held x (a.0 ++ b.0) s end there (all_held same laws full a.0 b.0 s end (λ q h. mid_in q (new_in_mid q h))
            (b.2 s end w mid_in shut)) in r)
            (λ (m, lacking, one, two).
            let x_in : Has same x m = kept same laws full one x (has_pushed same laws x s) in
            let shut_m : IsClosed same full m = λ y h. ⊎_elim
            (λ before. of_push same laws (λ p. (z : A) → Has same z (full p) → Has same z m) s x
            (λ p old z g. kept same laws full one z (has_left same z s (x ∷ []) (shut p old z g)))
            (λ z g. followed same laws full one z g) y before)
            (λ all. all) (closed same laws full one y h) in
            let mid_in = within same laws known first m (λ y h z g. shut_m y h z (grows y z g)) (λ z g. shut_m x x_in z (grows x z g))
            (of_push same laws (λ q. Has same q m) seen x (λ q old. kept same laws full one q (has_left same q s (x ∷ []) (sub q old)))
            x_in) in
            let r : Result s end = fresh x (a.0 ++ b.0) s m end lacking one
            (all_held same laws full a.0 b.0 m end (λ q h. mid_in q (new_in_mid q h)) (b.2 m end two mid_in shut_m)) in r)
            (begun same full v),
      )

  -- a list that was closed under fewer edges, closed again in its order under more, is what closing the entries under all of them gives
  pub closes_anew : ((x z : A) → Has same z (known x) → Has same z (full x)) → (entries ids after : List A) →
      Visits same known entries [] ids → Visits same full entries [] after → Visits same full ids [] after
  closes_anew grows entries ids after v w =
      let r = anew grows v in
      rw r.1 (r.2 [] after w (λ q h. h) (λ y h. none_in same y _ h))

  -- and if no vertex in it has more edges, it is that list already
  pub stays_closed : {stack seen ids : List A} → Visits same known stack seen ids → ((x : A) → Has same x ids → known x ≡ full x) →
      Visits same full stack seen ids
  stays_closed (done seen ids e) alike = done seen ids e
  stays_closed (held x stack seen ids there rest) alike = held x stack seen ids there (stays_closed rest alike)
  stays_closed (fresh x stack seen mid ids absent one two) alike =
      let x_in : Has same x ids = kept same laws known two x (kept same laws known one x (has_pushed same laws x seen)) in
      fresh x stack seen mid ids absent (rw (← alike x x_in) (stays_closed one (λ y h. alike y (kept same laws known two y h))))
      (stays_closed two alike)
