-- From any stack, a depth-first search with one set of visited vertices ends, if edges stay in a finite set.
use Rattle.std.proofs.Common.{◌≡◌, ℕ, zero, suc, ◌+◌, ◌<◌, ◌≤◌, false, Bool, List, [], ◌∷◌, ◌++◌, length, ◌-◌, refl, subst, arith, ⊎_elim}
use Rattle.std.proofs.Common.{length-append}
use Rattle.nfa_core.specs.Walks.{has, Has, Visits, done, held, fresh, HasNoneTwice, IsEquality, IsFinite}
use Rattle.nfa_core.proofs.MemberLemmas.{none_in, has_or_not, has_later, has_first, of_cons, of_push}
use Rattle.nfa_core.proofs.JoinLemmas.{once_pushed}
use Rattle.nfa_core.proofs.WalkLemmas.{room_for}

module _ {A : Type 0} (same : A → A → Bool) (laws : IsEquality same) (ways : A → List A) (In : A →
    Type 0) (n : ℕ) (finite : IsFinite same ways In n) where
  abbrev AreIn : List A → Type 0
  AreIn xs = (q : A) → Has same q xs → In q

  -- what a search ends with, from the vertices that were visited before
  record Walked (stack seen : List A) : Type 0 where
    after : List A
    walk : Visits same ways stack seen after
    inside : AreIn after
    once : HasNoneTwice same after
    longer : length seen ≤ length after

  abbrev Walks : ℕ → Type 0
  Walks f = (stack seen : List A) → AreIn stack → AreIn seen → HasNoneTwice same seen → n ≤ f + length seen → Walked stack seen

  module _ (f : ℕ) (deeper : (g : ℕ) → suc g ≡ f → Walks g) where
    walk_fresh : (x : A) (stack seen : List A) → ((seen : List A) → AreIn seen → HasNoneTwice same seen → n ≤ f + length seen →
        Walked stack seen) →
        In x → AreIn seen → HasNoneTwice same seen → n ≤ f + length seen → has same x seen ≡ false → (g : ℕ) → suc g ≡ f →
        Walked (x ∷ stack) seen
    walk_fresh x stack seen others here inside once fuel absent g e =
        let len : length (seen ++ x ∷ []) ≡ length seen + 1 = length-append seen (x ∷ []) in
        let first = deeper g e (ways x) (seen ++ x ∷ []) (finite.stays x here) (of_push same laws In seen x inside here)
        (once_pushed same laws x seen absent once) (omega (arith, len, e, fuel)) in
        let one = first.longer in
        let rest = others first.after first.inside first.once (omega (arith, fuel, one, len)) in
        let two = rest.longer in record {
          after = rest.after;
          walk = fresh x stack seen first.after rest.after absent first.walk rest.walk;
          inside = rest.inside;
          once = rest.once;
          longer = omega (arith, one, two, len);
        }

    walk_list : Walks f
    walk_list [] seen todo_in inside once fuel = record {
      after = seen;
      walk = done seen seen refl;
      inside = inside;
      once = once;
      longer = omega arith;
    }
    walk_list (x ∷ stack) seen todo_in inside once fuel =
        let here : In x = todo_in x (has_first same laws x stack) in
        let todo_rest : AreIn stack = λ q h. todo_in q (has_later same q x stack h) in
        ⊎_elim
        (λ there. let rest = walk_list stack seen todo_rest inside once fuel in
        record {
          after = rest.after;
          walk = held x stack seen rest.after there rest.walk;
          inside = rest.inside;
          once = rest.once;
          longer = rest.longer;
        })
        (λ absent. let short : length seen < n = room_for same laws ways In n finite x seen here inside once absent in
        let one : 0 < f = omega (arith, short, fuel) in
        walk_fresh x stack seen (λ s. walk_list stack s todo_rest) here inside once fuel absent (f - 1) (omega (arith, one)))
        (has_or_not same x seen)

  walk_within : (f : ℕ) → Walks f
  walk_within zero = walk_list zero (λ g e. absurd (omega (arith, e)))
  walk_within (suc f) = walk_list (suc f) (λ g e. let here : f ≡ g = omega (arith, e) in subst Walks here (walk_within f))

  -- a search from one vertex
  pub walk_from : (p : A) → In p → (after : List A) × Visits same ways (p ∷ []) [] after
  walk_from p here =
      let w = walk_within n (p ∷ []) [] (of_cons same laws In p [] here (λ q h. none_in same q _ h)) (λ q h. none_in same q _ h) tt
      (omega arith) in
      (w.after, w.walk)
