-- A depth-first search with one set of visited vertices can be made over names below a bound, and visits the ends of chains.
use Rattle.std.proofs.Common.{◌≡◌, ℕ, zero, suc, ◌+◌, ◌<◌, ◌≤◌, true, false, List, [], ◌∷◌, ◌++◌, length, refl, ap, arith, ⊎_elim, subst}
use Rattle.std.specs.List.{flat_map}
use Rattle.std.specs.Bool.{nat_eq}
use Rattle.nfa_core.specs.Walks.{has, Has, join, distinct, chain_ends, Visits, done, held, fresh, HasNoneTwice}
use Rattle.nfa_core.specs.Places.{StaysBelow}
use Rattle.nfa_core.proofs.ForCallers.{none_in, has_or_not, has_first, has_later, of_push, join_once, names_equal, finite_names, chains_met}

abbrev pub AreBelow : ℕ → List ℕ → Type 0
AreBelow n xs = (q : ℕ) → Has nat_eq q xs → q < n

length-pushed : (xs : List ℕ) (x : ℕ) → length (xs ++ x ∷ []) ≡ suc (length xs)
length-pushed [] x = refl
length-pushed (y ∷ ys) x = ap suc (length-pushed ys x)

-- a list without repeats, with one more member that it did not have
once_more : (seen : List ℕ) (x : ℕ) → has nat_eq x seen ≡ false → HasNoneTwice nat_eq seen → HasNoneTwice nat_eq (seen ++ x ∷ [])
once_more seen x absent once = let O : List ℕ → Type 0 = λ l. HasNoneTwice nat_eq l in
    subst O (pushed seen x absent) (join_once nat_eq names_equal seen (x ∷ []) once)
  where
    pushed : (seen : List ℕ) (x : ℕ) → has nat_eq x seen ≡ false → join nat_eq seen (x ∷ []) ≡ seen ++ x ∷ []
    pushed seen x e = rw e refl

module _ (steps : ℕ → List ℕ) (n : ℕ) (below : StaysBelow n steps) where
  -- a search that was made, to names below the bound and at least as many as before
  record Made (stack seen : List ℕ) : Type 0 where
    after : List ℕ
    visits : Visits nat_eq steps stack seen after
    once : HasNoneTwice nat_eq after
    low : AreBelow n after
    longer : length seen ≤ length after

  room : (x : ℕ) (seen : List ℕ) → x < n → AreBelow n seen → HasNoneTwice nat_eq seen → has nat_eq x seen ≡ false → length seen < n
  room x seen x_low low once absent =
      let l : length (seen ++ x ∷ []) ≤ n = (finite_names n steps below).room (seen
      ++ x ∷ []) (of_push nat_eq names_equal (λ q. q < n) seen x low x_low) (once_more seen x absent once) in
      let e = length-pushed seen x in omega (arith, l, e)

  held_there : (x : ℕ) (stack seen : List ℕ) → has nat_eq x seen ≡ true → Made stack seen → Made (x ∷ stack) seen
  held_there x stack seen e r = record {
    after = r.after;
    visits = held x stack seen r.after e r.visits;
    once = r.once;
    low = r.low;
    longer = r.longer;
  }

  make : (f : ℕ) (stack seen : List ℕ) → n ≤ f + length seen → AreBelow n stack → AreBelow n seen → HasNoneTwice nat_eq seen →
      Made stack seen
  make f [] seen fuel inside low once = record { after = seen; visits = done seen seen refl; once = once; low = low; longer = omega arith }
  make zero (x ∷ stack) seen fuel inside low once = ⊎_elim
      (λ (e : has nat_eq x seen ≡ true). held_there x stack seen e (make zero stack seen fuel
      (λ q h. inside q (has_later nat_eq q x stack h)) low once))
      (λ (e : has nat_eq x seen ≡ false). let l = room x seen (inside x (has_first nat_eq names_equal x stack)) low once e in
      absurd (omega (arith, l, fuel))) (has_or_not nat_eq x seen)
  make (suc f) (x ∷ stack) seen fuel inside low once = ⊎_elim
      (λ (e : has nat_eq x seen ≡ true). held_there x stack seen e (make (suc f) stack seen fuel
      (λ q h. inside q (has_later nat_eq q x stack h)) low once))
      (λ (absent : has nat_eq x seen ≡ false).
      let x_low : x < n = inside x (has_first nat_eq names_equal x stack) in
      let e = length-pushed seen x in
      let one = make f (steps x) (seen ++ x ∷ []) (omega (arith, fuel, e)) (below x x_low)
      (of_push nat_eq names_equal (λ q. q < n) seen x low x_low) (once_more seen x absent once) in
      let l = one.longer in
      let two = make f stack one.after (omega (arith, fuel, e, l)) (λ q h. inside q (has_later nat_eq q x stack h)) one.low one.once in
      let m = two.longer in
      record {
        after = two.after;
        visits = fresh x stack seen one.after two.after absent one.visits two.visits;
        once = two.once;
        low = two.low;
        longer = omega (arith, e, l, m);
      })
      (has_or_not nat_eq x seen)

  pub walk_made : (stack : List ℕ) → AreBelow n stack → Visits nat_eq steps stack []
      (distinct nat_eq (flat_map (chain_ends nat_eq steps n []) stack))
  walk_made stack inside =
      let r = make n stack [] (omega arith) inside (λ q h. none_in nat_eq q _ h) tt in
      let V : List ℕ → Type 0 = λ l. Visits nat_eq steps stack [] l in
      subst V (chains_met steps n stack [] r.after below inside (λ y h. none_in nat_eq y _ h) r.visits) r.visits

  pub made_below : (stack : List ℕ) → AreBelow n stack → AreBelow n (distinct nat_eq (flat_map (chain_ends nat_eq steps n []) stack))
  made_below stack inside =
      let r = make n stack [] (omega arith) inside (λ q h. none_in nat_eq q _ h) tt in
      let V : List ℕ → Type 0 = λ l. AreBelow n l in
      subst V (chains_met steps n stack [] r.after below inside (λ y h. none_in nat_eq y _ h) r.visits) r.low
