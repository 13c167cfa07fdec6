-- Laws of steps.
use Rattle.std.proofs.Common.{◌≡◌, ℕ, ◌<◌, true, false, Bool, ◌&&◌, List, ◌∷◌, length, Option, refl, ap, ◌∙◌, []}
use Rattle.std.proofs.Common.{cond, All, ⊎_elim}
use Rattle.std.proofs.lemmas.Bool.{cases_Bool}
use Rattle.std.specs.Bool.{nat_eq}
use lib.Bits.{or_zero_r}
use Rattle.std.specs.List.{IsDistinct, flat_map}
use Rattle.look_core.specs.LookSets.{union_of}
use Rattle.look_core.specs.Looks.{byte_side, is_word, is_byte}
use Rattle.look_core.specs.Terminators.{Terminator}
use Rattle.search_types.specs.declared.match_kind.MatchKind.{MatchKind}
use Rattle.search_types.specs.declared.match_kind.MatchKind.TheVariants.{All as AllMatches, LeftmostFirst}
use Rattle.nfa_core.specs.Walks.{has, Has, HasNoneTwice}
use Rattle.nfa_core.specs.Nfa.{Automaton, node_at, IsWellFormed}
use Rattle.nfa_core.specs.NfaValue.{look_of}
use Rattle.nfa_core.specs.Reached.{AreBelow}
use Rattle.nfa_core.proofs.ForCallers.{not_both, has_first, has_later, of_cons, names_equal}
use Rattle.determinize_core.specs.States.{StateValue, dead}
use Rattle.determinize_core.specs.Steps.{is_kept, kept_among, looks_with, have_if, is_some_kept, closed, known_before, known_after, gains}
use Rattle.determinize_core.specs.Steps.{ids_before, families, first_half, patterns_in, reading, unit_steps, states_after}
use Rattle.determinize_core.specs.Steps.{step_value, look_behind_of, start_value}
use Rattle.determinize_core.specs.declared.start.Start.{Start}
use Rattle.determinize_core.proofs.CloseAllLemmas.{closed_once, closed_below, distinct_from_once, all_from_below}
use Rattle.determinize_core.proofs.DecodeLemmas.{same_made}
use Rattle.determinize_core.proofs.MatchLemmas.{reading_none}
use Rattle.determinize_core.proofs.StartingLemmas.{one_inside}
use Rattle.determinize_core.proofs.TargetLemmas.{units_below}
use Rattle.determinize_core.proofs.EntriesLemmas.{capture_looks}

-- ---- what is kept of a list

kept_has : (a : Automaton) (q : ℕ) (xs : List ℕ) → Has nat_eq q (kept_among a xs) → Has nat_eq q xs
kept_has a q [] h = h
kept_has a q (x ∷ xs) h = ⊎_elim
    (λ (e : is_kept a x ≡ true). let g : Has nat_eq q (x ∷ kept_among a xs) = (rw e at h) in
    of_cons nat_eq names_equal (λ p. Has nat_eq p (x ∷ xs)) x (kept_among a xs) (has_first nat_eq names_equal x xs)
    (λ p i. has_later nat_eq p x xs (kept_has a p xs i)) q g)
    (λ (e : is_kept a x ≡ false). let g : Has nat_eq q (kept_among a xs) = (rw e at h) in
    has_later nat_eq q x xs (kept_has a q xs g)) (cases_Bool (is_kept a x))

kept_lacks : (a : Automaton) (q : ℕ) (xs : List ℕ) → has nat_eq q xs ≡ false → has nat_eq q (kept_among a xs) ≡ false
kept_lacks a q xs absent = ⊎_elim (λ (h : Has nat_eq q (kept_among a xs)). not_both (has nat_eq q xs) _ (kept_has a q xs h) absent) (λ e. e)
    (cases_Bool (has nat_eq q (kept_among a xs)))

kept_once : (a : Automaton) (xs : List ℕ) → HasNoneTwice nat_eq xs → HasNoneTwice nat_eq (kept_among a xs)
kept_once a [] once = tt
kept_once a (x ∷ xs) once = ⊎_elim
    (λ (e : is_kept a x ≡ true). rw e (kept_lacks a x xs once.0, kept_once a xs once.1))
    (λ (e : is_kept a x ≡ false). rw e (kept_once a xs once.1)) (cases_Bool (is_kept a x))

pub kept_distinct : (a : Automaton) (looks : ℕ) (qs : List ℕ) → IsDistinct nat_eq (kept_among a (closed a looks qs))
kept_distinct a looks qs = distinct_from_once (kept_among a (closed a looks qs)) (kept_once a (closed a looks qs) (closed_once a looks qs))

pub kept_below : (a : Automaton) (looks : ℕ) (qs : List ℕ) → IsWellFormed a → AreBelow (length a.states) qs →
    All (λ q. q < length a.states) (kept_among a (closed a looks qs))
kept_below a looks qs formed below =
    all_from_below (length a.states) (kept_among a (closed a looks qs)) (λ q h. closed_below a looks formed qs below q
    (kept_has a q (closed a looks qs) h))

-- ---- laws

module _ (a : Automaton) (t : Terminator) (kind : MatchKind) (v : StateValue) (u : Option ℕ) where
  pub step_below : IsWellFormed a → All (λ q. q < length a.states) (step_value a t kind v u).ids
  step_below formed = kept_below a (known_after (families a) a.reverse t u)
      (flat_map (unit_steps a u) (reading kind a (ids_before a t v u))) formed
      (units_below a formed u (reading kind a (ids_before a t v u)))

  pub step_once : IsDistinct nat_eq (step_value a t kind v u).ids
  step_once = kept_distinct a (known_after (families a) a.reverse t u) (flat_map (unit_steps a u) (reading kind a (ids_before a t v u)))

pub start_below : (a : Automaton) (t : Terminator) (s : Start) (q : ℕ) → IsWellFormed a → q < length a.states →
    All (λ r. r < length a.states) (start_value a t s q).ids
start_below a t s q formed low = kept_below a (look_behind_of a t s).look_have (q ∷ []) formed (one_inside (length a.states) q low)

pub start_once : (a : Automaton) (t : Terminator) (s : Start) (q : ℕ) → IsDistinct nat_eq (start_value a t s q).ids
start_once a t s q = kept_distinct a (look_behind_of a t s).look_have (q ∷ [])

-- the dead state
never_both : (b c : Bool) → (b && (c && false)) ≡ false
never_both true true = refl
never_both true false = refl
never_both false c = refl

none_matches : (kind : MatchKind) (a : Automaton) → patterns_in kind a [] ≡ []
none_matches AllMatches a = refl
none_matches LeftmostFirst a = refl

module _ (a : Automaton) where
  first_not_kept : (q : ℕ) (qs : List ℕ) → kept_among a (q ∷ qs) ≡ [] → (is_kept a q ≡ false) × (kept_among a qs ≡ [])
  first_not_kept q qs none = ⊎_elim
      (λ (e : is_kept a q ≡ true). let some : q ∷ kept_among a qs ≡ [] = (rw e at none) in cc)
      (λ (e : is_kept a q ≡ false). let rest : kept_among a qs ≡ [] = (rw e at none) in (e, rest)) (cases_Bool (is_kept a q))

  none_is_kept : (qs : List ℕ) → kept_among a qs ≡ [] → is_some_kept a qs ≡ false
  none_is_kept [] none = refl
  none_is_kept (q ∷ qs) none = let parts = first_not_kept q qs none in rw parts.0 (none_is_kept qs parts.1)

  none_looks : (looks : ℕ) (qs : List ℕ) → kept_among a qs ≡ [] → looks_with a looks qs ≡ looks
  none_looks looks [] none = refl
  none_looks looks (q ∷ qs) none =
      let parts = first_not_kept q qs none in
      let same : union_of looks (look_of (node_at a q)) ≡ looks = ap (union_of looks) (capture_looks (node_at a q) parts.0)
      ∙ or_zero_r looks in
      ap (λ (l : ℕ). looks_with a l qs) same ∙ none_looks looks qs parts.1

  module _ (t : Terminator) (kind : MatchKind) (v : StateValue) (u : Option ℕ) where
    pub comes_to_none : (step_value a t kind v u).matches ≡ [] → (step_value a t kind v u).ids ≡ [] → step_value a t kind v u ≡ dead
    comes_to_none no_match no_state =
        let some : is_some_kept a (states_after a t kind v u) ≡ false = none_is_kept (states_after a t kind v u) no_state in
        let looks : looks_with a 0 (states_after a t kind v u) ≡ 0 = none_looks 0 (states_after a t kind v u) no_state in
        same_made
        (ap (λ (b : Bool). (families a).words && (is_word (byte_side u) && b)) some ∙ never_both (families a).words (is_word (byte_side u)))
        (ap (λ (b : Bool). (families a).crlf && (is_byte (first_half a.reverse) u && b)) some
        ∙ never_both (families a).crlf (is_byte (first_half a.reverse) u))
        (ap (λ (n : ℕ). have_if n (known_after (families a) a.reverse t u)) looks) looks no_match no_state

  dead_before_by : (t : Terminator) (u : Option ℕ) (b : Bool) → gains dead (known_before a.reverse t dead u) ≡ b →
      ids_before a t dead u ≡ []
  dead_before_by t u true e = ap (λ (g : Bool). cond g (closed a (known_before a.reverse t dead u) []) []) e
  dead_before_by t u false e = ap (λ (g : Bool). cond g (closed a (known_before a.reverse t dead u) []) []) e

  pub stays_dead : (t : Terminator) (kind : MatchKind) (u : Option ℕ) → step_value a t kind dead u ≡ dead
  stays_dead t kind u =
      let before : ids_before a t dead u ≡ [] = dead_before_by t u (gains dead (known_before a.reverse t dead u)) refl in
      let no_match : patterns_in kind a (ids_before a t dead u) ≡ [] = ap (patterns_in kind a) before ∙ none_matches kind a in
      let reads : reading kind a (ids_before a t dead u) ≡ [] = ap (reading kind a) before ∙ reading_none kind a in
      let no_state : kept_among a (states_after a t kind dead u) ≡ [] =
      ap (λ (qs : List ℕ). kept_among a (closed a (known_after (families a) a.reverse t u) (flat_map (unit_steps a u) qs))) reads in
      comes_to_none t kind dead u no_match no_state
