-- The first answer at the ends of chains is what the most preferred run finds.
use Rattle.std.proofs.Common.{◌≡◌, ℕ, zero, suc, ◌<◌, true, false, Bool, List, [], ◌∷◌, ◌++◌, length, refl, sym, ap, ◌∙◌, arith, ◌⊎◌, inl}
use Rattle.std.proofs.Common.{inr, ⊎_elim, Option, Some, None, subst}
use Rattle.std.proofs.lemmas.Bool.{cases_Bool}
use Rattle.std.specs.List.{flat_map}
use Rattle.std.specs.Option.{option_or, option_to_list}
use Rattle.nfa_core.specs.Walks.{has, Has, chain_ends, IsEquality}
use Rattle.nfa_core.specs.Runs.{last_or, comes_before, IsPreferred, answers}
use Rattle.nfa_core.specs.Places.{first}
use Rattle.nfa_core.proofs.MemberLemmas.{none_in, not_both, has_first, has_later, has_cons, flat_map_twice}
use Rattle.nfa_core.proofs.ChainLemmas.{KeepsOff, head_off}

pub option_cases : {A : Type 0} (o : Option A) → (o ≡ None) ⊎ ((a : A) × (o ≡ Some a))
option_cases None = inl refl
option_cases (Some a) = inr (a, refl)

pub first_append : {A : Type 0} (xs ys : List A) → first (xs ++ ys) ≡ option_or (first xs) (first ys)
first_append [] ys = refl
first_append (x ∷ xs) ys = refl

pub one_value : {A : Type 0} (o : Option A) (a b : A) → o ≡ Some a → o ≡ Some b → a ≡ b
one_value o a b e f = let g : Some a ≡ Some b = sym e ∙ f in cc

pub no_value : {A : Type 0} (o : Option A) (a : A) (P : Type 0) → o ≡ None → o ≡ Some a → P
no_value o a P e f = let g : None ≡ Some a = sym e ∙ f in cc

pub first_of_option : {A : Type 0} (o : Option A) → first (option_to_list o) ≡ o
first_of_option None = refl
first_of_option (Some a) = refl

past : {A : Type 0} (same : A → A → Bool) (laws : IsEquality same) (P : Type 0) (x q other : A) (xs : List A) → (x ≡ other → ⊥) → P ⊎
    (comes_before same q other xs ≡ true) → P ⊎ (comes_before same q other (x ∷ xs) ≡ true)
past same laws P x q other xs apart h = ⊎_elim inl (λ (e : comes_before same q other xs ≡ true). inr (⊎_elim
    (λ (i : same x other ≡ true). absurd (apart ((laws x other).0 i)))
    (λ (i : same x other ≡ false). ⊎_elim (λ (j : same x q ≡ true). rw (i, j)) (λ (j : same x q ≡ false). rw (i, j, e))
    (cases_Bool (same x q))) (cases_Bool (same x other)))) h

module _ {A B : Type 0} (same : A → A → Bool) (laws : IsEquality same) (ways : A → List A) (answer : A → Option B) where
  -- a run that avoids the path, with fewer than f items after its first
  abbrev pub Short : ℕ → List A → A → List A → B → Type 0
  Short f path p r e = KeepsOff same ways path p r × (answer (last_or p r) ≡ Some e) × (length r < f)

  abbrev pub Best : ℕ → List A → A → Option B → Type 0
  Best f path p None = (s : List A) (d : B) → Short f path p s d → ⊥
  Best f path p (Some e) = (r : List A) × KeepsOff same ways path p r × (answer (last_or p r) ≡ Some e) ×
      ((s : List A) (d : B) → Short f path p s d → (s ≡ r) ⊎ IsPreferred same ways p r s)

  -- as `Best`, for several vertices to go on from
  abbrev BestOf : ℕ → List A → List A → Option B → Type 0
  BestOf f path qs None = (q : A) → Has same q qs → (s : List A) (d : B) → Short f path q s d → ⊥
  BestOf f path qs (Some e) = (q : A) × Has same q qs × (r : List A) × KeepsOff same ways path q r × (answer (last_or q r) ≡ Some e) ×
      ((o : A) → Has same o qs → (s : List A) (d : B) → Short f path o s d → ((o ≡ q) × ((s ≡ r) ⊎ IsPreferred same ways q r s)) ⊎
      (comes_before same q o qs ≡ true))

  abbrev given : ℕ → List A → A → List B
  given f path q = answers answer (chain_ends same ways f path q)

  of_list : (f : ℕ) (path : List A) → ((q : A) → Best f path q (first (given f path q))) → (qs : List A) →
      BestOf f path qs (first (flat_map (given f path) qs))
  of_list f path each [] = λ q h s d short. none_in same q _ h
  of_list f path each (x ∷ xs) = ⊎_elim
      (λ (none : first (given f path x) ≡ None).
      let no_run = rw none at (each x) in
      ⊎_elim
      (λ (e : first (flat_map (given f path) xs) ≡ None).
      let later = rw e at (of_list f path each xs) in
      rw (first_append (given f path x) (flat_map (given f path) xs), none, e)
      (λ q h s d short. ⊎_elim (λ (i : q ≡ x). let g : Short f path x s d = (rw i at short) in
      no_run s d g) (λ g. later q g s d short) (has_cons same laws q x xs h)))
      (λ (some : (a : B) × (first (flat_map (given f path) xs) ≡ Some a)).
      let later = rw some.1 at (of_list f path each xs) in
      rw (first_append (given f path x) (flat_map (given f path) xs), none, some.1) (
        later.0,
        has_later same later.0 x xs later.1,
        later.2,
        later.3,
        later.4,
        λ o h s d short. ⊎_elim
            (λ (i : o ≡ x). let g : Short f path x s d = (rw i at short) in absurd (no_run s d g))
            (λ g. past same laws _ x later.0 o xs (λ (i : x ≡ o). let k : Short f path x s d = (rw i short) in
            no_run s d k) (later.5 o g s d short)) (has_cons same laws o x xs h),
      ))
      (option_cases (first (flat_map (given f path) xs))))
      (λ (some : (a : B) × (first (given f path x) ≡ Some a)).
      let best = rw some.1 at (each x) in
      rw (first_append (given f path x) (flat_map (given f path) xs), some.1) (
        x,
        has_first same laws x xs,
        best.0,
        best.1,
        best.2,
        λ o h s d short. ⊎_elim
            (λ (e : same x o ≡ true). let i : o ≡ x = sym ((laws x o).0 e) in let g : Short f path x s d = (rw i at short) in
            inl (i, best.3 s d g))
            (λ (e : same x o ≡ false). let self : same x x ≡ true = (laws x x).1 refl in inr (rw (e, self))) (cases_Bool (same x o)),
      )) (option_cases (first (given f path x)))

  given_is : (f : ℕ) (path : List A) (p : A) → has same p path ≡ false →
      first (given (suc f) path p) ≡ option_or (answer p) (first (flat_map (given f (p ∷ path)) (ways p)))
  given_is f path p off = rw off (first_append (option_to_list (answer p))
      (answers answer (flat_map (chain_ends same ways f (p ∷ path)) (ways p)))
      ∙ ap (λ l. option_or (first (option_to_list (answer p))) (first l))
      (flat_map_twice (λ x. option_to_list (answer x)) (chain_ends same ways f (p ∷ path)) (ways p))
      ∙ ap (λ o. option_or o (first (flat_map (given f (p ∷ path)) (ways p)))) (first_of_option (answer p)))

  ends_first : (p : A) (s : List A) → (s ≡ []) ⊎ IsPreferred same ways p [] s
  ends_first p [] = inl refl
  ends_first p (o ∷ s) = inr tt

  goes_nowhere : (f : ℕ) (path : List A) (p : A) → answer p ≡ None → BestOf f (p ∷ path) (ways p) None → (s : List A) (d : B) →
      Short (suc f) path p s d → ⊥
  goes_nowhere f path p none all [] d short = no_value (answer p) d _ none short.1
  goes_nowhere f path p none all (q ∷ s) d short = all q short.0.1 s d (short.0.2, short.1, omega (arith, short.2))

  goes_on : (f : ℕ) (path : List A) (p : A) (e : B) → answer p ≡ None → (all : BestOf f (p ∷ path) (ways p) (Some e)) →
      (s : List A) (d : B) → Short (suc f) path p s d → (s ≡ all.0 ∷ all.2) ⊎ IsPreferred same ways p (all.0 ∷ all.2) s
  goes_on f path p e none all [] d short = no_value (answer p) d _ none short.1
  goes_on f path p e none all (o ∷ s) d short = ⊎_elim
      (λ (alike : (o ≡ all.0) × ((s ≡ all.2) ⊎ IsPreferred same ways all.0 all.2 s)). ⊎_elim
      (λ (i : s ≡ all.2). let k : o ≡ all.0 = alike.0 in inl (rw (k, i)))
      (λ better. inr (inr (sym alike.0, better))) alike.1)
      (λ way. inr (inl way)) (all.5 o short.0.1 s d (short.0.2, short.1, omega (arith, short.2)))

  -- the first answer is that of the best run
  pub best : (f : ℕ) (path : List A) (p : A) → Best f path p (first (given f path p))
  best zero path p = λ s d short. absurd (omega (arith, short.2))
  best (suc f) path p = ⊎_elim
      (λ (e : has same p path ≡ true). rw e (λ s d short. not_both (has same p path) _ e (head_off same laws ways path p s short.0)))
      (λ (e : has same p path ≡ false).
      let Goal : Option B → Type 0 = λ o. Best (suc f) path p o in
      let onward : Option B = first (flat_map (given f (p ∷ path)) (ways p)) in
      let all : BestOf f (p ∷ path) (ways p) onward = of_list f (p ∷ path) (best f (p ∷ path)) (ways p) in
      subst Goal (sym (given_is f path p e)) (⊎_elim
      (λ (none : answer p ≡ None). ⊎_elim
      (λ (lacking : onward ≡ None). rw (none, lacking) (goes_nowhere f path p none (rw lacking at all)))
      (λ (some : (d : B) × (onward ≡ Some d)).
      let there : BestOf f (p ∷ path) (ways p) (Some some.0) = (rw some.1 at all) in
      rw (none, some.1) (there.0 ∷ there.2, (e, there.1, there.3), there.4, goes_on f path p some.0 none there))
      (option_cases onward))
      (λ (here : (d : B) × (answer p ≡ Some d)). rw here.1 ([], e, here.1, λ s d short. ends_first p s)) (option_cases (answer p))))
      (cases_Bool (has same p path))
