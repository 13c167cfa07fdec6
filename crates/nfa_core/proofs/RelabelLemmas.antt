-- Runs of one graph are those of another whose vertices have other names. A larger bound finds no more.
use Rattle.std.proofs.Common.{◌≡◌, ℕ, zero, suc, ◌+◌, ◌<◌, ◌≤◌, true, false, Bool, List, [], ◌∷◌, ◌++◌, length, map, refl, sym, ap, ◌∙◌}
use Rattle.std.proofs.Common.{arith, ⊎_elim, Option}
use Rattle.std.proofs.lemmas.List.Folds.{flat_map-map}
use Rattle.std.specs.List.{flat_map}
use Rattle.std.specs.Option.{option_to_list}
use Rattle.nfa_core.specs.Walks.{has, Has, distinct, chain_ends, HasNoneTwice, IsEquality, IsFinite}
use Rattle.nfa_core.specs.Runs.{answers, run_ends}
use Rattle.nfa_core.proofs.MemberLemmas.{none_in, has_or_not, has_first, has_later, of_cons, of_flat_map, flat_map_same}
use Rattle.nfa_core.proofs.WalkLemmas.{room_for}
use Rattle.nfa_core.proofs.PairLemmas.{same_cases}

pub map_appended : {A B : Type 0} (f : A → B) (xs ys : List A) → map f (xs ++ ys) ≡ map f xs ++ map f ys
map_appended f [] ys = refl
map_appended f (x ∷ xs) ys = ap (λ l. f x ∷ l) (map_appended f xs ys)

map_flat : {A B C : Type 0} (h : B → C) (f : A → List B) (xs : List A) → map h (flat_map f xs) ≡ flat_map (λ y. map h (f y)) xs
map_flat h f [] = refl
map_flat h f (x ∷ xs) = map_appended h (f x) (flat_map f xs) ∙ ap (λ l. map h (f x) ++ l) (map_flat h f xs)

module _ {A : Type 0} (same : A → A → Bool) (laws : IsEquality same) (ways : A → List A) (In : A → Type 0) where
  -- the ends of chains are in the set
  pub ends_in : ((x : A) → In x → (y : A) → Has same y (ways x) → In y) → (f : ℕ) (path : List A) (x : A) → In x → (q : A) →
      Has same q (chain_ends same ways f path x) → In q
  ends_in stays zero path x here q h = none_in same q _ h
  ends_in stays (suc f) path x here q h = ⊎_elim
      (λ (e : has same x path ≡ true). none_in same q _ (rw e at h))
      (λ (e : has same x path ≡ false). let g = rw e at h in of_cons same laws In x
      (flat_map (chain_ends same ways f (x ∷ path)) (ways x)) here
      (of_flat_map same laws same (chain_ends same ways f (x ∷ path)) In (ways x)
      (λ y way. ends_in stays f (x ∷ path) y (stays x here y way))) q g) (has_or_not same x path)

  -- bounds of at least the number of vertices in the set give the same ends
  pub same_bound : (n : ℕ) → IsFinite same ways In n → (f g : ℕ) (path : List A) (x : A) → In x → ((q : A) → Has same q path → In q) →
      HasNoneTwice same path →
      n ≤ f + length path → n ≤ g + length path → chain_ends same ways f path x ≡ chain_ends same ways g path x
  same_bound n finite zero zero path x here inside once a b = refl
  same_bound n finite zero (suc g) path x here inside once a b = ⊎_elim (λ (e : has same x path ≡ true). rw e)
      (λ (e : has same x path ≡ false). let l : length path < n = room_for same laws ways In n finite x path here inside once e in
      absurd (omega (arith, a, l))) (has_or_not same x path)
  same_bound n finite (suc f) zero path x here inside once a b = ⊎_elim (λ (e : has same x path ≡ true). rw e)
      (λ (e : has same x path ≡ false). let l : length path < n = room_for same laws ways In n finite x path here inside once e in
      absurd (omega (arith, b, l))) (has_or_not same x path)
  same_bound n finite (suc f) (suc g) path x here inside once a b = ⊎_elim (λ (e : has same x path ≡ true). rw e)
      (λ (e : has same x path ≡ false). rw e (ap (λ l. x ∷ l) (flat_map_same same laws (chain_ends same ways f (x ∷ path))
      (chain_ends same ways g (x ∷ path)) (ways x)
      (λ y way. same_bound n finite f g (x ∷ path) y (finite.stays x here y way) (of_cons same laws In x path here inside) (
        e,
        once,
      ) (omega (arith, a)) (omega (arith, b)))))) (has_or_not same x path)

module _ {A C : Type 0} (same : A → A → Bool) (laws : IsEquality same) (other : C → C → Bool) (laws_o : IsEquality other) (ways : A →
    List A) (ways_o : C → List C)
    (name : A → C) (In : A → Type 0) (stays : (x : A) → In x → (y : A) → Has same y (ways x) → In y)
    (one : (x y : A) → In x → In y → name x ≡ name y → x ≡ y) (alike : (x : A) → In x → ways_o (name x) ≡ map name (ways x)) where
  has_named : (x : A) (path : List A) → In x → ((q : A) → Has same q path → In q) → has other (name x) (map name path) ≡ has same x path
  has_named x [] here inside = refl
  has_named x (y ∷ ys) here inside =
      let e : other (name x) (name y) ≡ same x y = same_cases other same laws_o laws (name x) (name y) x y
      (one x y here (inside y (has_first same laws y ys))) (ap name) in
      rw (e, has_named x ys here (λ q h. inside q (has_later same q y ys h)))

  pub ends_named : (f : ℕ) (path : List A) (x : A) → In x → ((q : A) → Has same q path → In q) →
      chain_ends other ways_o f (map name path) (name x) ≡ map name (chain_ends same ways f path x)
  ends_named zero path x here inside = refl
  ends_named (suc f) path x here inside = ⊎_elim
      (λ (e : has same x path ≡ true). let g : has other (name x) (map name path) ≡ true = has_named x path here inside ∙ e in rw (e, g))
      (λ (e : has same x path ≡ false). let g : has other (name x) (map name path) ≡ false = has_named x path here inside ∙ e in
      rw (e, g) (ap (λ l. name x ∷ l)
      (ap (flat_map (chain_ends other ways_o f (name x ∷ map name path))) (alike x here)
      ∙ flat_map-map (chain_ends other ways_o f (name x ∷ map name path)) name (ways x)
      ∙ flat_map_same same laws (λ y. chain_ends other ways_o f (name x ∷ map name path) (name y))
      (λ y. map name (chain_ends same ways f (x ∷ path) y)) (ways x)
      (λ y way. ends_named f (x ∷ path) y (stays x here y way) (of_cons same laws In x path here inside))
      ∙ sym (map_flat name (chain_ends same ways f (x ∷ path)) (ways x))))) (has_or_not same x path)

  pub run_ends_named : {B : Type 0} (same_end : B → B → Bool) (answer : C → Option B) (n : ℕ) (p : A) → In p →
      run_ends other same_end ways_o answer n (name p) ≡ run_ends same same_end ways (λ x. answer (name x)) n p
  run_ends_named same_end answer n p here =
      ap (λ l. distinct same_end (answers answer l)) (ends_named n [] p here (λ q h. none_in same q _ h))
      ∙ ap (distinct same_end) (flat_map-map (λ x. option_to_list (answer x)) name (chain_ends same ways n [] p))
