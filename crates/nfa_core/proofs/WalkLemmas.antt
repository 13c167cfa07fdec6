-- A depth-first search with one set of visited vertices ends with the join of the ends of simple chains.
use Rattle.std.proofs.Common.{◌≡◌, ℕ, zero, suc, ◌+◌, ◌<◌, ◌≤◌, true, false, Bool, List, [], ◌∷◌, ◌++◌, length, sym, ap, ◌∙◌, arith, ◌⊎◌}
use Rattle.std.proofs.Common.{inl, inr, ⊎_elim}
use Rattle.std.specs.List.{flat_map}
use Rattle.nfa_core.specs.Walks.{has, Has, join, chain_ends, Visits, done, held, fresh, HasNoneTwice, IsEquality, IsFinite, IsClosed}
use Rattle.nfa_core.proofs.MemberLemmas.{none_in, has_or_not, not_both, has_append, has_left, has_later, has_first, has_same, has_one}
use Rattle.nfa_core.proofs.MemberLemmas.{of_cons, has_pushed, lacks, of_flat_map}
use Rattle.nfa_core.proofs.JoinLemmas.{join-append, join_held}

-- a list of vertices in the set that is without repeats, and without x of the set, is shorter than n
pub room_for : {A : Type 0} (same : A → A → Bool) (laws : IsEquality same) (ways : A → List A) (In : A → Type 0) (n : ℕ) →
    IsFinite same ways In n →
    (x : A) (xs : List A) → In x → ((q : A) → Has same q xs → In q) → HasNoneTwice same xs → has same x xs ≡ false → length xs < n
room_for same laws ways In n finite x xs here inside once absent =
    let l : length (x ∷ xs) ≤ n = finite.room (x ∷ xs) (of_cons same laws In x xs here inside) (absent, once) in omega (arith, l)

module _ {A : Type 0} (same : A → A → Bool) (laws : IsEquality same) (ways : A → List A) where
  -- what was visited stays visited
  pub kept : {stack seen after : List A} → Visits same ways stack seen after → (q : A) → Has same q seen → Has same q after
  kept (done seen after e) q h = rw (← e) h
  kept (held x stack seen after there rest) q h = kept rest q h
  kept (fresh x stack seen mid after absent first rest) q h = kept rest q (kept first q (has_left same q seen (x ∷ []) h))

  -- what is on the stack is visited
  pub followed : {stack seen after : List A} → Visits same ways stack seen after → (q : A) → Has same q stack → Has same q after
  followed (done seen after e) q h = none_in same q _ h
  followed (held x stack seen after there rest) q h = of_cons same laws (λ p. Has same p after) x stack (kept rest x there)
      (followed rest) q h
  followed (fresh x stack seen mid after absent first rest) q h =
      of_cons same laws (λ p. Has same p after) x stack (kept rest x (kept first x (has_pushed same laws x seen))) (followed rest) q h

  -- all edges of vertices that are newly visited lead to visited vertices
  pub closed : {stack seen after : List A} → Visits same ways stack seen after → (y : A) → Has same y after → Has same y seen ⊎
      ((z : A) → Has same z (ways y) → Has same z after)
  closed (done seen after e) y h = inl (rw e h)
  closed (held x stack seen after there rest) y h = closed rest y h
  closed (fresh x stack seen mid after absent first rest) y h =
      ⊎_elim
      (λ now. ⊎_elim
      (λ before. ⊎_elim inl (λ one. inr (λ z g. let e : y ≡ x = has_one same laws y x one in kept rest z (followed first z (rw e at g))))
      (has_append same y seen (x ∷ []) before))
      (λ (all : (z : A) → Has same z (ways y) → Has same z mid). inr (λ z g. kept rest z (all z g))) (closed first y now))
      inr (closed rest y h)

  -- the edges of each visited vertex that isn't on the path lead to visited vertices
  abbrev pub Settled : List A → List A → Type 0
  Settled path seen = (y : A) → Has same y seen → Has same y path ⊎ ((z : A) → Has same z (ways y) → Has same z seen)

  held_ends : (f : ℕ) (path seen : List A) (x : A) → Settled path seen → Has same x seen → (q : A) →
      Has same q (chain_ends same ways f path x) → Has same q seen
  held_ends zero path seen x settled there q h = none_in same q _ h
  held_ends (suc f) path seen x settled there q h = ⊎_elim
      (λ (e : has same x path ≡ true). none_in same q _ (rw e at h))
      (λ (e : has same x path ≡ false). let g = rw e at h in
      of_cons same laws (λ p. Has same p seen) x (flat_map (chain_ends same ways f (x ∷ path)) (ways x)) there
      (of_flat_map same laws same (chain_ends same ways f (x ∷ path)) (λ p. Has same p seen) (ways x)
      (λ y way. held_ends f (x ∷ path) seen y
      (λ z seen_z. ⊎_elim (λ on. inl (has_later same z x path on)) inr (settled z seen_z))
      (⊎_elim (λ on. not_both (has same x path) _ on e) (λ all. all y way) (settled x there))))
      q g) (has_or_not same x path)

  module _ (In : A → Type 0) (n : ℕ) (finite : IsFinite same ways In n) where
    pub meets : {stack seen after : List A} → Visits same ways stack seen after → (f : ℕ) (path : List A) → n ≤ f + length path →
        HasNoneTwice same path →
        ((q : A) → Has same q path → In q) → ((q : A) → Has same q stack → In q) → ((q : A) → Has same q path → Has same q seen) →
        Settled path seen →
        after ≡ join same seen (flat_map (chain_ends same ways f path) stack)
    meets (done seen after e) f path fuel once low inside under settled = sym e
    meets (held x stack seen after there rest) f path fuel once low inside under settled =
        meets rest f path fuel once low (λ q h. inside q (has_later same q x stack h)) under settled
        ∙ ap (λ s. join same s (flat_map (chain_ends same ways f path) stack))
        (sym (join_held same laws seen (chain_ends same ways f path x) (held_ends f path seen x settled there)))
        ∙ sym (join-append same seen (chain_ends same ways f path x) (flat_map (chain_ends same ways f path) stack))
    meets (fresh x stack seen mid after absent first rest) zero path fuel once low inside under settled =
        let short : length path < n = room_for same laws ways In n finite x path (inside x (has_first same laws x stack)) low once
        (lacks same laws x path seen absent under) in
        absurd (omega arith)
    meets (fresh x stack seen mid after absent first rest) (suc f) path fuel once low inside under settled =
        let off : has same x path ≡ false = lacks same laws x path seen absent under in
        let x_in : In x = inside x (has_first same laws x stack) in
        let more : (q : A) → Has same q seen → Has same q (seen ++ x ∷ []) = λ q h. has_left same q seen (x ∷ []) h in
        let one : mid ≡ join same (seen ++ x ∷ []) (flat_map (chain_ends same ways f (x ∷ path)) (ways x)) =
        meets first f (x ∷ path) (omega arith) (off, once)
        (of_cons same laws In x path x_in low)
        (finite.stays x x_in)
        (of_cons same laws (λ q. Has same q (seen ++ x ∷ [])) x path (has_pushed same laws x seen) (λ q on. more q (under q on)))
        (λ y h. ⊎_elim
        (λ before. ⊎_elim (λ on. inl (has_later same y x path on)) (λ (all : (z : A) → Has same z (ways y) → Has same z seen). inr
        (λ z g. more z (all z g))) (settled y before))
        (λ last. inl (has_same same laws y x path (has_one same laws y x last))) (has_append same y seen (x ∷ []) h)) in
        let two : after ≡ join same mid (flat_map (chain_ends same ways (suc f) path) stack) = meets rest (suc f) path fuel once low
        (λ q h. inside q (has_later same q x stack h))
        (λ q on. kept first q (more q (under q on)))
        (λ y h. ⊎_elim
        (λ before. ⊎_elim
        (λ old. ⊎_elim inl (λ (all : (z : A) → Has same z (ways y) → Has same z seen). inr (λ z g. kept first z (more z (all z g))))
        (settled y old))
        (λ last. let e : y ≡ x = has_one same laws y x last in inr (λ z g. followed first z (rw e at g)))
        (has_append same y seen (x ∷ []) before))
        inr (closed first y h)) in
        two ∙ ap (λ s. join same s (flat_map (chain_ends same ways (suc f) path) stack)) one
        ∙ sym (join-append same (seen ++ x ∷ []) (flat_map (chain_ends same ways f (x ∷ path)) (ways x))
        (flat_map (chain_ends same ways (suc f) path) stack))
        ∙ rw (off, absent)

    -- the list with which the search ends is the join of the ends of chains
    pub walk_is_join : (stack seen after : List A) → ((q : A) → Has same q stack → In q) → IsClosed same ways seen →
        Visits same ways stack seen after →
        after ≡ join same seen (flat_map (chain_ends same ways n []) stack)
    walk_is_join stack seen after inside all visits =
        meets visits n [] (omega arith) tt (λ q h. none_in same q _ h) inside (λ q h. none_in same q _ h) (λ y h. inr (all y h))
