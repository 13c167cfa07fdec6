-- Captures are passed through: each leads to the state that stands for it, or into a cycle.
use Rattle.std.proofs.Common.{◌≡◌, ℕ, zero, suc, ◌<◌, ◌≤◌, true, false, Bool, not, List, [], ◌∷◌, length, refl, sym, ap, ◌∙◌, arith, ◌⊎◌}
use Rattle.std.proofs.Common.{inl, inr, ⊎_elim, subst, if◌then◌else◌}
use Rattle.std.proofs.lemmas.Bool.{cases_Bool}
use Rattle.std.proofs.lemmas.List.{append-nil}
use Rattle.std.specs.List.{flat_map}
use Rattle.std.specs.Bool.{nat_eq}
use Rattle.look_core.specs.declared.look.Look.{Look}
use Rattle.nfa_core.specs.Walks.{Has, HasNoneTwice}
use Rattle.nfa_core.specs.Late.{IsHead, IsGoneThrough}
use Rattle.nfa_core.specs.Nfa.{Node, byte_range, sparse_node, dense_node, look_node, union_node, binary_union, capture_node, fail_node}
use Rattle.nfa_core.specs.Nfa.{match_node, Automaton, node_at, leads_to, IsWellFormed}
use Rattle.nfa_core.specs.NfaValue.{is_capture}
use Rattle.nfa_core.specs.Ways.{on_nothing}
use Rattle.nfa_core.proofs.ForCallers.{none_in, not_both, has_or_not, has_first, has_one, of_cons, names_equal, finite_names}
use Rattle.determinize_core.specs.Steps.{is_kept}

-- where a capture leads
abbrev pub next_of : Node → ℕ
next_of (capture_node next pattern group slot) = next
next_of _ = 0

pub capture_leads : (node : Node) (passed : Look → Bool) → not (is_capture node) ≡ false → on_nothing node passed ≡ next_of node ∷ []
capture_leads (capture_node next pattern group slot) passed k = refl
capture_leads (byte_range low high next) passed k = cc
capture_leads (sparse_node ranges) passed k = cc
capture_leads (dense_node names) passed k = cc
capture_leads (look_node l next) passed k = cc
capture_leads (union_node names) passed k = cc
capture_leads (binary_union first second) passed k = cc
capture_leads fail_node passed k = cc
capture_leads (match_node pattern) passed k = cc

capture_led : (node : Node) → not (is_capture node) ≡ false → Has nat_eq (next_of node) (leads_to node)
capture_led (capture_node next pattern group slot) k = has_first nat_eq names_equal next []
capture_led (byte_range low high next) k = cc
capture_led (sparse_node ranges) k = cc
capture_led (dense_node names) k = cc
capture_led (look_node l next) k = cc
capture_led (union_node names) k = cc
capture_led (binary_union first second) k = cc
capture_led fail_node k = cc
capture_led (match_node pattern) k = cc

module _ (a : Automaton) where
  abbrev next : ℕ → ℕ
  next x = next_of (node_at a x)

  -- after m captures comes a state that is none
  abbrev EndsIn : ℕ → ℕ → Type 0
  EndsIn zero x = is_kept a x ≡ true
  EndsIn (suc m) x = (is_kept a x ≡ false) × EndsIn m (next x)

  one_length : (m k x : ℕ) → EndsIn m x → EndsIn k x → m ≡ k
  one_length zero zero x d e = refl
  one_length zero (suc k) x d e = not_both (is_kept a x) _ d e.0
  one_length (suc m) zero x d e = not_both (is_kept a x) _ e d.0
  one_length (suc m) (suc k) x d e = ap suc (one_length m k (next x) d.1 e.1)

  abbrev trail : ℕ → ℕ → List ℕ
  trail zero x = x ∷ []
  trail (suc m) x = x ∷ trail m (next x)

  abbrev Nearer : ℕ → ℕ → Type 0
  Nearer m y = (k : ℕ) × (k ≤ m) × EndsIn k y

  on_trail : (m x : ℕ) → EndsIn m x → (y : ℕ) → Has nat_eq y (trail m x) → Nearer m y
  on_trail zero x d y h = of_cons nat_eq names_equal (Nearer zero) x [] (zero, omega arith, d) (λ q g. none_in nat_eq q _ g) y h
  on_trail (suc m) x d y h = of_cons nat_eq names_equal (Nearer (suc m)) x (trail m (next x)) (suc m, omega arith, d)
      (λ q g. let r = on_trail m (next x) d.1 q g in let l = r.1 in (r.0, omega (arith, l), r.2)) y h

  trail_once : (m x : ℕ) → EndsIn m x → HasNoneTwice nat_eq (trail m x)
  trail_once zero x d = (refl, tt)
  trail_once (suc m) x d = (
    ⊎_elim (λ (back : Has nat_eq x (trail m (next x))). let r = on_trail m (next x) d.1 x back in let l = r.1 in
        let e : r.0 ≡ suc m = one_length r.0 (suc m) x r.2 d in absurd (omega (arith, l, e)))
        (λ e. e) (has_or_not nat_eq x (trail m (next x))),
    trail_once m (next x) d.1,
  )

  trail_length : (m x : ℕ) → length (trail m x) ≡ suc m
  trail_length zero x = refl
  trail_length (suc m) x = ap suc (trail_length m (next x))

  -- the state that follows fewer captures than that, and how many there are
  abbrev to_within : ℕ → ℕ → List ℕ
  to_within zero x = []
  to_within (suc f) x = if is_kept a x then x ∷ [] else to_within f (next x)

  abbrev rank_within : ℕ → ℕ → ℕ
  rank_within zero x = 0
  rank_within (suc f) x = if is_kept a x then 0 else suc (rank_within f (next x))

  abbrev last_of : ℕ → ℕ → ℕ
  last_of zero x = x
  last_of (suc m) x = last_of m (next x)

  to_found : (f m x : ℕ) → m < f → EndsIn m x → to_within f x ≡ last_of m x ∷ []
  to_found zero m x l d = absurd (omega (arith, l))
  to_found (suc f) zero x l d = rw d refl
  to_found (suc f) (suc m) x l d = let e = d.0 in rw e (to_found f m (next x) (omega (arith, l)) d.1)

  rank_found : (f m x : ℕ) → m < f → EndsIn m x → rank_within f x ≡ m
  rank_found zero m x l d = absurd (omega (arith, l))
  rank_found (suc f) zero x l d = rw d refl
  rank_found (suc f) (suc m) x l d = let e = d.0 in rw e (ap suc (rank_found f m (next x) (omega (arith, l)) d.1))

  to_none : (f x : ℕ) → ((m : ℕ) → EndsIn m x → ⊥) → to_within f x ≡ []
  to_none zero x never = refl
  to_none (suc f) x never = ⊎_elim (λ (e : is_kept a x ≡ true). absurd (never zero e))
      (λ (e : is_kept a x ≡ false). rw e (to_none f (next x) (λ m d. never (suc m) (e, d)))) (cases_Bool (is_kept a x))

  to_is_kept : (f x q : ℕ) → Has nat_eq q (to_within f x) → is_kept a q ≡ true
  to_is_kept zero x q h = none_in nat_eq q _ h
  to_is_kept (suc f) x q h = ⊎_elim
      (λ (e : is_kept a x ≡ true). let g : Has nat_eq q (x ∷ []) = (rw e at h) in let i : q ≡ x = has_one nat_eq names_equal q x g in
      ap (is_kept a) i ∙ e)
      (λ (e : is_kept a x ≡ false). to_is_kept f (next x) q (rw e at h)) (cases_Bool (is_kept a x))

  search_end : (f x : ℕ) → ((m : ℕ) × (m < f) × EndsIn m x) ⊎ ((m : ℕ) → m < f → EndsIn m x → ⊥)
  search_end zero x = inr (λ m l d. omega (arith, l))
  search_end (suc f) x = ⊎_elim (λ (e : is_kept a x ≡ true). inl (zero, omega arith, e))
      (λ (e : is_kept a x ≡ false). ⊎_elim (λ r. let l = r.1 in inl (suc r.0, omega (arith, l), (e, r.2)))
      (λ (none : (m : ℕ) → m < f → EndsIn m (next x) → ⊥). inr (none_here f x e none)) (search_end f (next x))) (cases_Bool (is_kept a x))
    where
      none_here : (f x : ℕ) → is_kept a x ≡ false → ((m : ℕ) → m < f → EndsIn m (next x) → ⊥) → (m : ℕ) → m < suc f → EndsIn m x → ⊥
      none_here f x e none zero l d = not_both (is_kept a x) _ d e
      none_here f x e none (suc m) l d = none m (omega (arith, l)) d.1

  module _ (formed : IsWellFormed a) where
    next_below : (x : ℕ) → is_kept a x ≡ false → next x < length a.states
    next_below x k = formed x (next x) (capture_led (node_at a x) k)

    trail_below : (m x : ℕ) → x < length a.states → EndsIn m x → (y : ℕ) → Has nat_eq y (trail m x) → y < length a.states
    trail_below zero x low d y h = of_cons nat_eq names_equal (λ q. q < length a.states) x [] low (λ q g. none_in nat_eq q _ g) y h
    trail_below (suc m) x low d y h = of_cons nat_eq names_equal (λ q. q < length a.states) x (trail m (next x)) low
        (λ q g. trail_below m (next x) (next_below x d.0) d.1 q g) y h

    near : (m x : ℕ) → x < length a.states → EndsIn m x → m < length a.states
    near m x low d =
        let l : length (trail m x) ≤ length a.states = (finite_names (length a.states) (λ q. []) (λ q g y h. none_in nat_eq y _ h)).room
        (trail m x) (trail_below m x low d) (trail_once m x d) in
        let e = trail_length m x in omega (arith, l, e)

    -- the state that stands for a state, and how many captures come before it
    abbrev pub to : ℕ → List ℕ
    to x = to_within (suc (length a.states)) x

    abbrev pub rank : ℕ → ℕ
    rank x = rank_within (suc (length a.states)) x

    pub to_self : (x : ℕ) → is_kept a x ≡ true → to x ≡ x ∷ []
    to_self x k = rw k refl

    pub to_kept : (x q : ℕ) → Has nat_eq q (to x) → is_kept a q ≡ true
    to_kept x q h = to_is_kept (suc (length a.states)) x q h

    to_next : (x : ℕ) → is_kept a x ≡ false → to x ≡ to_within (length a.states) (next x)
    to_next x k = rw k refl

    rank_next : (x : ℕ) → is_kept a x ≡ false → rank x ≡ suc (rank_within (length a.states) (next x))
    rank_next x k = rw k refl

    abbrev Follows : ℕ → Type 0
    Follows x = (to x ≡ to (next x)) × ((to x ≡ []) ⊎ (rank (next x) < rank x))

    follows : (x : ℕ) → is_kept a x ≡ false → Follows x
    follows x k = ⊎_elim
        (λ (m, less, d).
        let here : to x ≡ last_of m (next x) ∷ [] = to_next x k ∙ to_found (length a.states) m (next x) less d in
        let there : to (next x) ≡ last_of m (next x) ∷ [] = to_found (suc (length a.states)) m (next x) (omega (arith, less)) d in
        let r : rank x ≡ suc m = rank_next x k ∙ ap suc (rank_found (length a.states) m (next x) less d) in
        let s : rank (next x) ≡ m = rank_found (suc (length a.states)) m (next x) (omega (arith, less)) d in
        (here ∙ sym there, inr (omega (arith, r, s))))
        (λ none.
        let never : (m : ℕ) → EndsIn m (next x) → ⊥ = λ m d. none m (near m (next x) (next_below x k) d) d in
        let here : to x ≡ [] = to_next x k ∙ to_none (length a.states) (next x) never in
        let there : to (next x) ≡ [] = to_none (suc (length a.states)) (next x) never in
        (here ∙ sym there, inl here))
        (search_end (length a.states) (next x))

    pub passed_through : (passed : Look → Bool) (x : ℕ) → is_kept a x ≡ false →
        IsGoneThrough (λ q. on_nothing (node_at a q) passed) to rank x
    passed_through passed x k =
        let leads : on_nothing (node_at a x) passed ≡ next x ∷ [] = capture_leads (node_at a x) passed k in
        let f = follows x k in
        let P : List ℕ → Type 0 = λ l. (to x ≡ flat_map to l) × ((to x ≡ []) ⊎
        ((z : ℕ) × (to x ≡ to z) × (rank z < rank x) × IsHead z l)) in
        subst P (sym leads) (f.0 ∙ sym (append-nil (to (next x))), ⊎_elim (λ none. inl none) (λ less. inr (next x, f.0, less, refl)) f.1)
