-- A powerset state's states, closed again by what the next unit decides, are those that closing its entries under all looks would have
-- given, except for captures.
use Rattle.std.proofs.Common.{◌≡◌, ℕ, ◌==◌, ◌&&◌, true, false, Bool, not, List, [], ◌∷◌, length, Option, refl, sym, ap, ◌∙◌, ⊎_elim}
use Rattle.std.proofs.Common.{subst, if◌then◌else◌}
use Rattle.std.proofs.lemmas.Bool.{cases_Bool, eqb-true, eq-eqb, or_left, or_right, not-false}
use Rattle.std.specs.Int.Bits.{and_zero_r, or_zero_r}
use Rattle.std.specs.List.{filter}
use Rattle.std.specs.Bool.{nat_eq}
use Rattle.look_core.specs.declared.look.Look.{Look}
use Rattle.look_core.specs.Terminators.{Terminator}
use Rattle.look_core.specs.LookSets.{IsLookSet, has_look, union_of, shared_by, without}
use Rattle.look_core.proofs.ForCallers.{has_look-none, has_look-union, has_look-shared, has_look-without, has_look-repr}
use Rattle.nfa_core.specs.Walks.{Has, Visits}
use Rattle.nfa_core.specs.Places.{StaysBelow}
use Rattle.nfa_core.specs.Nfa.{Node, byte_range, sparse_node, dense_node, look_node, union_node, binary_union, capture_node, fail_node}
use Rattle.nfa_core.specs.Nfa.{match_node, Automaton, node_at, IsWellFormed}
use Rattle.nfa_core.specs.NfaValue.{look_of, looks_of, is_capture}
use Rattle.nfa_core.specs.Ways.{on_nothing}
use Rattle.nfa_core.proofs.ForCallers.{none_in, not_both, has_cons, has_first, has_later, of_cons, names_equal, nothing_led, looks_any}
use Rattle.nfa_core.proofs.ForCallers.{one_after, stays_closed, kept_close_anew, nothing_same}
use Rattle.determinize_core.specs.States.{StateValue}
use Rattle.determinize_core.specs.Steps.{known_before, known_steps, closed, is_kept, kept_among, looks_with, have_if, gains, ids_before}
use Rattle.determinize_core.specs.Steps.{is_some_kept}
use Rattle.determinize_core.proofs.MadeLemmas.{AreBelow, walk_made}
use Rattle.determinize_core.proofs.CaptureLemmas.{to, rank, to_self, to_kept, passed_through}
use Rattle.determinize_core.proofs.PassedLemmas.{passed_by, told_holds, IsTold, IsFlagged, known_passed}

-- ---- transitions by the looks that hold

way_grows : (p r : Bool) (next z : ℕ) → (p ≡ true → r ≡ true) → Has nat_eq z (if p then next ∷ [] else []) →
    Has nat_eq z (if r then next ∷ [] else [])
way_grows true r next z all h = let e : r ≡ true = all refl in rw e h
way_grows false r next z all h = none_in nat_eq z _ h

ways_grow : (node : Node) (p r : Look → Bool) → ((l : Look) (next : ℕ) → node ≡ look_node l next → p l ≡ true → r l ≡ true) →
    (z : ℕ) → Has nat_eq z (on_nothing node p) → Has nat_eq z (on_nothing node r)
ways_grow (byte_range low high next) p r all z h = h
ways_grow (sparse_node ranges) p r all z h = h
ways_grow (dense_node names) p r all z h = h
ways_grow (look_node l next) p r all z h = way_grows (p l) (r l) next z (all l next refl) h
ways_grow (union_node names) p r all z h = h
ways_grow (binary_union first second) p r all z h = h
ways_grow (capture_node next pattern group slot) p r all z h = h
ways_grow fail_node p r all z h = h
ways_grow (match_node pattern) p r all z h = h

pub stays_below : (a : Automaton) → IsWellFormed a → (passed : Look → Bool) →
    StaysBelow (length a.states) (λ q. on_nothing (node_at a q) passed)
stays_below a formed passed x low y h = formed x y (nothing_led (node_at a x) passed y h)

-- ---- the looks of states

look_has : (l : Look) (next : ℕ) (node : Node) → node ≡ look_node l next → has_look (look_of node) l ≡ true
look_has l next node e = ap (λ m. has_look (look_of m) l) e ∙ has_look-repr l l ∙ eq-eqb _ _ refl

module _ (a : Automaton) (l : Look) where
  -- the looks of a set stay in it
  has_old : (qs : List ℕ) (s : ℕ) → has_look s l ≡ true → has_look (looks_with a s qs) l ≡ true
  has_old [] s h = h
  has_old (q ∷ qs) s h = has_old qs (union_of s (look_of (node_at a q))) (has_look-union s (look_of (node_at a q)) l ∙ or_left _ _ h)

  pub has_its_look : (qs : List ℕ) (s x : ℕ) → Has nat_eq x qs → has_look (look_of (node_at a x)) l ≡ true →
      has_look (looks_with a s qs) l ≡ true
  has_its_look [] s x there h = none_in nat_eq x _ there
  has_its_look (q ∷ qs) s x there h = ⊎_elim
      (λ (e : x ≡ q). has_old qs (union_of s (look_of (node_at a q))) (has_look-union s (look_of (node_at a q)) l
      ∙ or_right _ _ (ap (λ y. has_look (look_of (node_at a y)) l) (sym e) ∙ h)))
      (λ later. has_its_look qs (union_of s (look_of (node_at a q))) x later h) (has_cons nat_eq names_equal x q qs there)

pub capture_looks : (node : Node) → not (is_capture node) ≡ false → look_of node ≡ 0
capture_looks (capture_node next pattern group slot) k = refl
capture_looks (byte_range low high next) k = cc
capture_looks (sparse_node ranges) k = cc
capture_looks (dense_node names) k = cc
capture_looks (look_node l next) k = cc
capture_looks (union_node names) k = cc
capture_looks (binary_union first second) k = cc
capture_looks fail_node k = cc
capture_looks (match_node pattern) k = cc

-- states that are all captures add no looks
captures_alone : (a : Automaton) (qs : List ℕ) (s : ℕ) → is_some_kept a qs ≡ false → looks_with a s qs ≡ s
captures_alone a [] s none = refl
captures_alone a (q ∷ qs) s none = ⊎_elim
    (λ (e : is_kept a q ≡ true). not_both (is_some_kept a (q ∷ qs)) _ (or_left _ _ e) none)
    (λ (e : is_kept a q ≡ false).
    let rest : is_some_kept a qs ≡ false = (rw e at none) in
    ap (λ w. looks_with a (union_of s w) qs) (capture_looks (node_at a q) e) ∙ ap (λ w. looks_with a w qs) (or_zero_r s)
    ∙ captures_alone a qs s rest)
    (cases_Bool (is_kept a q))

-- ---- what is gained

no_zero : (x n : ℕ) → n ≡ 0 → not (shared_by x n == 0) ≡ true → ⊥
no_zero x n e h =
    let g : not (shared_by x 0 == 0) ≡ true = (rw e at h) in
    let z : (shared_by x 0 == 0) ≡ true = eq-eqb (shared_by x 0) 0 (and_zero_r x) in
    let f : false ≡ true = ap not (sym z) ∙ g in cc

not_gained : (p q n : Bool) → ((p && not q) && n) ≡ false → n ≡ true → q ≡ false → p ≡ false
not_gained true true n e m f = f
not_gained true false n e m f = sym m ∙ e
not_gained false q n e m f = refl

-- if nothing is gained, a needed look that becomes known was known already
nothing_gained : (known have need : ℕ) (l : Look) → IsLookSet have → not (shared_by (without known have) need == 0) ≡ false →
    has_look need l ≡ true →
    has_look have l ≡ false → has_look known l ≡ false
nothing_gained known have need l small none m f =
    let z : shared_by (without known have) need ≡ 0 = eqb-true (shared_by (without known have) need) 0 (not-false _ none) in
    let e : ((has_look known l && not (has_look have l)) && has_look need l) ≡ false =
    ap (λ b. b && has_look need l) (sym (has_look-without known have l small)) ∙ sym (has_look-shared (without known have) need l)
    ∙ ap (λ s. has_look s l) z ∙ has_look-none l in
    not_gained (has_look known l) (has_look have l) (has_look need l) e m f

-- ---- a state and what it was made of

-- the state was made of entries that were closed under these looks, at an offset with o just before it
pub record IsStateOf (a : Automaton) (t : Terminator) (o : Option ℕ) (have : ℕ) (entries : List ℕ) (v : StateValue) : Type 0 where
  pub ids : v.ids ≡ kept_among a (closed a have entries)
  pub need : v.look_need ≡ looks_with a 0 (closed a have entries)
  pub has : v.look_have ≡ have_if v.look_need have
  pub small : IsLookSet have
  pub reported : IsTold (looks_of a.states) a.reverse t o have
  pub flagged : is_some_kept a (closed a have entries) ≡ true → IsFlagged (looks_of a.states) a.reverse o v.is_from_word v.is_half_crlf
  pub low : AreBelow (length a.states) entries

kept_twice : (keep : ℕ → Bool) (xs : List ℕ) → filter keep (filter keep xs) ≡ filter keep xs
kept_twice keep [] = refl
kept_twice keep (x ∷ xs) = ⊎_elim
    (λ (e : keep x ≡ true). rw (e, e) (ap (λ l. x ∷ l) (kept_twice keep xs)))
    (λ (e : keep x ≡ false). rw e (kept_twice keep xs)) (cases_Bool (keep x))

has_kept : (keep : ℕ → Bool) (xs : List ℕ) (q : ℕ) → Has nat_eq q (filter keep xs) → Has nat_eq q xs
has_kept keep [] q h = h
has_kept keep (x ∷ xs) q h = ⊎_elim
    (λ (e : keep x ≡ true). of_cons nat_eq names_equal (λ y. Has nat_eq y (x ∷ xs)) x (filter keep xs) (has_first nat_eq names_equal x xs)
    (λ y g. has_later nat_eq y x xs (has_kept keep xs y g)) q (rw e at h))
    (λ (e : keep x ≡ false). has_later nat_eq q x xs (has_kept keep xs q (rw e at h))) (cases_Bool (keep x))

module _ (a : Automaton) (formed : IsWellFormed a) (t : Terminator) (o u : Option ℕ) (have : ℕ) (entries : List ℕ) (v : StateValue)
    (s : IsStateOf a t o have entries v) where
  abbrev asked : ℕ
  asked = looks_of a.states

  abbrev states : List ℕ
  states = closed a have entries

  abbrev known : ℕ
  known = known_before a.reverse t v u

  abbrev passed : Look → Bool
  passed = passed_by a.reverse t o u

  abbrev full : ℕ → List ℕ
  full q = on_nothing (node_at a q) passed

  is_asked : (x : ℕ) (l : Look) (next : ℕ) → node_at a x ≡ look_node l next → has_look asked l ≡ true
  is_asked x l next e = (looks_any l a).1 (x, next, e)

  need_has : (x : ℕ) (l : Look) (next : ℕ) → Has nat_eq x states → node_at a x ≡ look_node l next → has_look v.look_need l ≡ true
  need_has x l next there e = ap (λ n. has_look n l) s.need ∙ has_its_look a l states 0 x there (look_has l next (node_at a x) e)

  needs : (l : Look) → has_look v.look_need l ≡ true → (v.look_need == 0) ≡ false
  needs l h = ⊎_elim
      (λ (z : (v.look_need == 0) ≡ true). not_both (has_look v.look_need l) _ h (ap (λ n. has_look n l) (eqb-true v.look_need 0 z)
      ∙ has_look-none l))
      (λ z. z) (cases_Bool (v.look_need == 0))

  some_kept : (v.look_need == 0) ≡ false → is_some_kept a states ≡ true
  some_kept some = ⊎_elim (λ e. e)
      (λ (none : is_some_kept a states ≡ false). not_both (v.look_need == 0) _
      (eq-eqb v.look_need 0 (s.need ∙ captures_alone a states 0 none)) some) (cases_Bool (is_some_kept a states))

  has_is : (v.look_need == 0) ≡ false → v.look_have ≡ have
  has_is some = s.has ∙ chosen (v.look_need == 0) some
    where
      chosen : (b : Bool) → b ≡ false → (if b then 0 else have) ≡ have
      chosen true e = let f : true ≡ false = e in cc
      chosen false e = refl

  knows : (v.look_need == 0) ≡ false → (l : Look) → has_look asked l ≡ true → has_look known l ≡ passed l
  knows some l m =
      let T : ℕ → Type 0 = λ n. IsTold asked a.reverse t o n in
      known_passed asked a.reverse t o u v (s.flagged (some_kept some)) (subst T (sym (has_is some)) s.reported) l m

  told_passed : (l : Look) → has_look asked l ≡ true → has_look have l ≡ true → passed l ≡ true
  told_passed l m h = told_holds a.reverse t o u l (sym (s.reported.reported l m) ∙ h)

  grows : (x z : ℕ) → Has nat_eq z (known_steps a have x) → Has nat_eq z (full x)
  grows x z h = ways_grow (node_at a x) (has_look have) passed (λ l next e. told_passed l (is_asked x l next e)) z h

  first_visits : Visits nat_eq (known_steps a have) entries [] states
  first_visits = walk_made (known_steps a have) (length a.states) (stays_below a formed (has_look have)) entries s.low

  -- if nothing is gained, what was closed is closed under all looks
  alike_there : gains v known ≡ false → (x : ℕ) → Has nat_eq x states → known_steps a have x ≡ full x
  alike_there none x there = nothing_same (node_at a x) (has_look have) passed
      (λ l next e.
      let m = is_asked x l next e in
      let n = need_has x l next there e in
      let some = needs l n in
      ⊎_elim (λ (h : has_look have l ≡ true). h ∙ sym (told_passed l m h))
      (λ (h : has_look have l ≡ false).
      let G : ℕ → Type 0 = λ w. not (shared_by (without known w) v.look_need == 0) ≡ false in
      h ∙ sym (nothing_gained known have v.look_need l s.small (subst G (has_is some) none) n h) ∙ knows some l m)
      (cases_Bool (has_look have l)))

  gained_needs : gains v known ≡ true → (v.look_need == 0) ≡ false
  gained_needs g = ⊎_elim (λ (z : (v.look_need == 0) ≡ true). absurd (no_zero (without known v.look_have) v.look_need
      (eqb-true v.look_need 0 z) g)) (λ z. z) (cases_Bool (v.look_need == 0))

  kept_low : AreBelow (length a.states) states → AreBelow (length a.states) (kept_among a states)
  kept_low low q h = low q (has_kept (is_kept a) states q h)

  pub closes : AreBelow (length a.states) states → (after : List ℕ) → Visits nat_eq full entries [] after →
      kept_among a (ids_before a t v u) ≡ kept_among a after
  closes low after w = ⊎_elim
      (λ (g : gains v known ≡ true).
      let some = gained_needs g in
      let again : List ℕ = closed a known (kept_among a states) in
      let by_known : Visits nat_eq (known_steps a known) (kept_among a states) [] again =
      walk_made (known_steps a known) (length a.states) (stays_below a formed (has_look known)) (kept_among a states) (kept_low low) in
      let by_full : Visits nat_eq full (kept_among a states) [] again =
      stays_closed nat_eq names_equal (known_steps a known) full by_known
      (λ x h. nothing_same (node_at a x) (has_look known) passed (λ l next e. knows some l (is_asked x l next e))) in
      let e : ids_before a t v u ≡ again = rw g (ap (closed a known) s.ids) in
      ap (kept_among a) e
      ∙ kept_close_anew nat_eq names_equal (is_kept a) (to a formed) (rank a formed) (to_self a formed) (to_kept a formed)
      (known_steps a have) full grows
      (passed_through a formed (has_look have)) (passed_through a formed passed) entries states after again first_visits w by_full)
      (λ (none : gains v known ≡ false).
      let by_full : Visits nat_eq full entries [] states = stays_closed nat_eq names_equal (known_steps a have) full first_visits
      (alike_there none) in
      let same : states ≡ after = one_after nat_eq full by_full after w in
      let e : ids_before a t v u ≡ kept_among a states = rw none s.ids in
      ap (kept_among a) e ∙ kept_twice (is_kept a) states ∙ ap (kept_among a) same)
      (cases_Bool (gains v known))
