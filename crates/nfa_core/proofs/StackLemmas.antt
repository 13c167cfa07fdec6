-- Where the search of a stack ends, every chain ends, so no vertex is visited twice. The search's answers are the ends of runs.
use Rattle.std.proofs.Common.{◌≡◌, ℕ, zero, suc, ◌+◌, ◌<◌, ◌≤◌, false, Bool, List, [], ◌∷◌, ◌++◌, length, refl, sym, ap, ◌∙◌, arith, ⊎_elim}
use Rattle.std.proofs.Common.{Option, Some}
use Rattle.std.proofs.lemmas.List.{append-nil}
use Rattle.std.proofs.lemmas.Grind.{flat_map-append}
use Rattle.std.specs.List.{flat_map}
use Rattle.std.specs.Option.{option_to_list}
use Rattle.nfa_core.specs.Walks.{has, Has, distinct, chain_ends, Lists, lists_none, lists_answer, lists_ways, HasNoneTwice, IsEquality}
use Rattle.nfa_core.specs.Walks.{IsFinite}
use Rattle.nfa_core.specs.Runs.{answers, run_ends}
use Rattle.nfa_core.proofs.MemberLemmas.{none_in, has_or_not, has_first, has_later, has_left, has_right, of_cons, of_append, flat_map_same}
use Rattle.nfa_core.proofs.WalkLemmas.{room_for}

module _ {A : Type 0} (same : A → A → Bool) (laws : IsEquality same) (ways : A → List A) where
  -- each chain from x has at most m vertices
  abbrev pub Falls : ℕ → A → Type 0
  Falls zero x = ⊥
  Falls (suc m) x = (y : A) → Has same y (ways x) → Falls m y

  falls_more : (m k : ℕ) (x : A) → m ≤ k → Falls m x → Falls k x
  falls_more zero k x h falls = absurd falls
  falls_more (suc m) zero x h falls = absurd (omega (arith, h))
  falls_more (suc m) (suc k) x h falls = λ y way. falls_more m k y (omega (arith, h)) (falls y way)

  -- a vertex whose chains have a bound is not on a cycle
  pub no_descent : (x : A) → ((m : ℕ) → Falls m x → (k : ℕ) × (k < m) × Falls k x) → (bound m : ℕ) → m < bound → Falls m x → ⊥
  no_descent x is_reverse zero m h falls = omega (arith, h)
  no_descent x is_reverse (suc bound) m h falls = let d = is_reverse m falls in
      no_descent x is_reverse bound d.0 (omega (arith, h, d.1)) d.2

  -- every vertex on the path leads to x
  abbrev Above : List A → A → Type 0
  Above path x = (q : A) → Has same q path → (m : ℕ) → Falls m q → (k : ℕ) × (k < m) × Falls k x

  off_path : (path : List A) (x : A) (m : ℕ) → Above path x → Falls m x → has same x path ≡ false
  off_path path x m above falls = ⊎_elim (λ (on : Has same x path). absurd (no_descent x (above x on) (suc m) m (omega arith) falls))
      (λ e. e) (has_or_not same x path)

  pub step_down : (x y : A) (m : ℕ) → Has same y (ways x) → Falls m x → (k : ℕ) × (k < m) × Falls k y
  step_down x y zero way falls = absurd falls
  step_down x y (suc m) way falls = (m, omega arith, falls y way)

  above_next : (path : List A) (x y : A) → Has same y (ways x) → Above path x → Above (x ∷ path) y
  above_next path x y way above = of_cons same laws (λ q. (m : ℕ) → Falls m q → (k : ℕ) × (k < m) × Falls k y) x path
      (λ m falls. step_down x y m way falls)
      (λ q on m falls. let a = above q on m falls in let b = step_down x y a.0 way a.2 in (b.0, omega (arith, a.1, b.1), b.2))

  module _ (In : A → Type 0) (n : ℕ) (finite : IsFinite same ways In n) where
    abbrev Clear : ℕ → List A → A → Type 0
    Clear f path x = (n ≤ f + length path) × HasNoneTwice same path × ((q : A) → Has same q path → In q) × Above path x

    clear_next : (f : ℕ) (path : List A) (x y : A) (m : ℕ) → In x → Falls m x → Has same y (ways x) → Clear (suc f) path x →
        Clear f (x ∷ path) y
    clear_next f path x y m here falls way clear = (
      omega (arith, clear.0),
      (off_path path x m clear.3 falls, clear.1),
      of_cons same laws In x path here clear.2,
      above_next path x y way clear.3,
    )

    no_room : (path : List A) (x : A) (m : ℕ) → In x → Falls m x → Clear 0 path x → ⊥
    no_room path x m here falls clear =
        let l : length path < n = room_for same laws ways In n finite x path here clear.2 clear.1 (off_path path x m clear.3 falls) in
        omega (arith, l, clear.0)

    -- then neither the path nor the bound matters
    same_ends : (f g : ℕ) (path other : List A) (x : A) (m : ℕ) → In x → Falls m x → Clear f path x → Clear g other x →
        chain_ends same ways f path x ≡ chain_ends same ways g other x
    same_ends zero g path other x m here falls a b = absurd (no_room path x m here falls a)
    same_ends (suc f) zero path other x m here falls a b = absurd (no_room other x m here falls b)
    same_ends (suc f) (suc g) path other x m here falls a b =
        let off : has same x path ≡ false = off_path path x m a.3 falls in
        let off_other : has same x other ≡ false = off_path other x m b.3 falls in
        rw (off, off_other) (ap (λ l. x ∷ l) (flat_map_same same laws (chain_ends same ways f (x ∷ path))
        (chain_ends same ways g (x ∷ other)) (ways x)
        (λ y way. let d = step_down x y m way falls in
        same_ends f g (x ∷ path) (x ∷ other) y d.0 (finite.stays x here y way) d.2 (clear_next f path x y m here falls way a)
        (clear_next g other x y m here falls way b))))

    clear_nil : (x : A) → Clear n [] x
    clear_nil x = (omega arith, tt, λ q h. none_in same q _ h, λ q h. none_in same q _ h)

    -- so the ends of chains from x are x and those from its edges
    pub unrolled : (x : A) (m : ℕ) → In x → Falls m x → chain_ends same ways n [] x ≡ x ∷ flat_map (chain_ends same ways n []) (ways x)
    unrolled x m here falls =
        same_ends n (suc n) [] [] x m here falls (clear_nil x) (omega arith, tt, λ q h. none_in same q _ h, λ q h. none_in same q _ h)
        ∙ ap (λ l. x ∷ l) (flat_map_same same laws (chain_ends same ways n (x ∷ [])) (chain_ends same ways n []) (ways x)
        (λ y way. let d = step_down x y m way falls in
        same_ends n n (x ∷ []) [] y d.0 (finite.stays x here y way) d.2
        (clear_next n [] x y m here falls way (omega arith, tt, λ q h. none_in same q _ h, λ q h. none_in same q _ h)) (clear_nil y)))

    module _ {B : Type 0} (answer : A → Option B) (ends_there : (x : A) (e : B) → answer x ≡ Some e → ways x ≡ []) where
      -- the chains from the vertices on the stack of a search that ends have a common bound
      pub all_fall : {stack : List A} {l : List B} → Lists ways answer stack l → (m : ℕ) × ((x : A) → Has same x stack → Falls m x)
      all_fall lists_none = (0, λ x h. none_in same x _ h)
      all_fall (lists_answer x e rest l is walk) =
          let r = all_fall walk in
          let none : ways x ≡ [] = ends_there x e is in
          let here : Falls (suc r.0) x = λ y way. let g : Has same y [] = (rw none at way) in none_in same y _ g in
          (suc r.0, of_cons same laws (Falls (suc r.0)) x rest here (λ y h. falls_more r.0 (suc r.0) y (omega arith) (r.1 y h)))
      all_fall (lists_ways x rest l is walk) =
          let r = all_fall walk in (
            suc r.0,
            of_cons same laws (Falls (suc r.0)) x rest (λ y way. r.1 y (has_left same y (ways x) rest way))
                (λ y h. falls_more r.0 (suc r.0) y (omega arith) (r.1 y (has_right same y (ways x) rest h))),
          )

      abbrev ends_of : List A → List A
      ends_of stack = flat_map (chain_ends same ways n []) stack

      pub lists_ends : {stack : List A} {l : List B} → Lists ways answer stack l → ((q : A) → Has same q stack → In q) →
          l ≡ answers answer (ends_of stack)
      lists_ends lists_none inside = refl
      lists_ends (lists_answer x e rest l is walk) inside =
          let r = all_fall (lists_answer x e rest l is walk) in
          let first_in : Has same x (x ∷ rest) = has_first same laws x rest in
          let none : ways x ≡ [] = ends_there x e is in
          let one : chain_ends same ways n [] x ≡ x ∷ [] = unrolled x r.0 (inside x first_in) (r.1 x first_in)
          ∙ ap (λ ws. x ∷ ends_of ws) none in
          ap (λ t. e ∷ t) (lists_ends walk (λ q h. inside q (has_later same q x rest h)))
          ∙ ap (λ o. option_to_list o ++ answers answer (ends_of rest)) (sym is)
          ∙ ap (λ c. answers answer (c ++ ends_of rest)) (sym one)
      lists_ends (lists_ways x rest l is walk) inside =
          let r = all_fall (lists_ways x rest l is walk) in
          let first_in : Has same x (x ∷ rest) = has_first same laws x rest in
          let here : In x = inside x first_in in
          lists_ends walk (of_append same laws In (ways x) rest (finite.stays x here) (λ q h. inside q (has_later same q x rest h)))
          ∙ ap (answers answer) (flat_map-append (chain_ends same ways n []) (ways x) rest)
          ∙ ap (λ o. option_to_list o ++ answers answer (ends_of (ways x) ++ ends_of rest)) (sym is)
          ∙ ap (λ c. answers answer (c ++ ends_of rest)) (sym (unrolled x r.0 here (r.1 x first_in)))

      -- the answers of the search of a stack, repeats dropped, are the ends of runs
      pub stack_ends : (same_end : B → B → Bool) (p : A) (l : List B) → In p → Lists ways answer (p ∷ []) l →
          run_ends same same_end ways answer n p ≡ distinct same_end l
      stack_ends same_end p l here walk =
          ap (distinct same_end) (sym (lists_ends walk (of_cons same laws In p [] here (λ q h. none_in same q _ h))
          ∙ ap (answers answer) (append-nil (chain_ends same ways n [] p))))
