-- The states of a sequence of powerset states are those of the search under all looks, except for captures.
use Rattle.std.proofs.Common.{◌≡◌, ℕ, zero, suc, ◌<◌, ◌≤◌, List, [], ◌∷◌, length, Option, Some, refl, sym, ap, ◌∙◌, subst}
use Rattle.std.proofs.Common.{arith}
use Rattle.std.specs.Int.Bits.{or_zero_l}
use Rattle.std.specs.List.{flat_map}
use Rattle.std.specs.Bool.{nat_eq}
use Rattle.look_core.specs.Terminators.{Terminator}
use Rattle.look_core.specs.LookSets.{has_look}
use Rattle.search_types.specs.declared.match_kind.MatchKind.{MatchKind}
use Rattle.nfa_core.specs.Walks.{Visits}
use Rattle.nfa_core.specs.Nfa.{Automaton, node_at, IsWellFormed}
use Rattle.nfa_core.specs.NfaValue.{looks_of}
use Rattle.nfa_core.specs.Ways.{Text, span, is_satisfied, on_nothing, plain_steps, byte_steps, offset_of, bytes_left, AreLists}
use Rattle.nfa_core.proofs.ForCallers.{names_equal, stays_closed, place_zero, nothing_same}
use Rattle.determinize_core.specs.States.{StateValue}
use Rattle.determinize_core.specs.Starts.{start_of}
use Rattle.determinize_core.specs.Steps.{known_after, closed, unit_steps, reading, patterns_in, kept_among}
use Rattle.determinize_core.specs.Steps.{have_if, looks_with, ids_before}
use Rattle.determinize_core.specs.Steps.{families, states_after, is_some_kept, look_behind_of, start_value}
use Rattle.determinize_core.specs.Steps.{step_value, unit_at, unit_before}
use Rattle.determinize_core.specs.Steps.{value_after}
use Rattle.determinize_core.specs.Walked.{closed_by, cut_of, lists_along}
use Rattle.determinize_core.proofs.KnownStateLemmas.{known-lt, starts_of-lt}
use Rattle.determinize_core.proofs.MadeLemmas.{AreBelow, walk_made, made_below}
use Rattle.determinize_core.proofs.PassedLemmas.{passed_by, looks_passed, IsTold, start_is_told, start_is_flagged, seen_behind}
use Rattle.determinize_core.proofs.PassedLemmas.{behind_is_told, behind_is_flagged}
use Rattle.determinize_core.proofs.EntriesLemmas.{stays_below, IsStateOf, closes}
use Rattle.determinize_core.proofs.StartingLemmas.{one_inside}
use Rattle.determinize_core.proofs.ReadingLemmas.{kept_match, unit_passes, unit_is, place_inside, entries_alike, bytes_low}
use Rattle.determinize_core.proofs.TargetLemmas.{units_below}

-- ---- the lists of the search under all looks

pub closed_visits : (a : Automaton) → IsWellFormed a → (text : Text) (j : ℕ) (xs : List ℕ) → AreBelow (length a.states) xs →
    Visits nat_eq (plain_steps a text j) xs [] (closed_by a (plain_steps a text j) xs)
closed_visits a formed text j xs low = walk_made (plain_steps a text j) (length a.states)
    (stays_below a formed (λ l. is_satisfied a.reverse text l j)) xs low

pub lists_are_lists : (kind : MatchKind) (a : Automaton) (text : Text) (i q : ℕ) → IsWellFormed a → q < length a.states →
    AreLists a text (i, q) (cut_of kind a i) (lists_along kind a text i q)
lists_are_lists kind a text i q formed low = record {
  first = closed_visits a formed text (offset_of a.reverse i 0) (q ∷ []) (one_inside (length a.states) q low);
  later = λ k less. closed_visits a formed text (offset_of a.reverse i (suc k))
      (flat_map (byte_steps a text (offset_of a.reverse i k)) (cut_of kind a i k (lists_along kind a text i q k)))
      (bytes_low a formed text (offset_of a.reverse i k) (cut_of kind a i k (lists_along kind a text i q k)));
}

-- ---- states of sequences

start_stands : (a : Automaton) (t : Terminator) (o : Option ℕ) (q : ℕ) → q < length a.states →
    IsStateOf a t o (look_behind_of a t (start_of t o)).look_have (q ∷ []) (start_value a t (start_of t o) q)
start_stands a t o q low =
    let have : ℕ = (look_behind_of a t (start_of t o)).look_have in record {
      ids = refl;
      need = refl;
      has = ap (have_if (looks_with a 0 (closed a have (q ∷ [])))) (or_zero_l have);
      small = known-lt (families a) a.reverse t (start_of t o);
      reported = start_is_told (looks_of a.states) a.reverse t o;
      flagged = λ some. start_is_flagged (looks_of a.states) a.reverse t o;
      low = one_inside (length a.states) q low;
    }

step_stands : (a : Automaton) → IsWellFormed a → (t : Terminator) (kind : MatchKind) (v : StateValue) (u : Option ℕ) (b : ℕ) → u ≡ Some b →
    IsStateOf a t u (known_after (families a) a.reverse t u) (flat_map (unit_steps a u) (reading kind a (ids_before a t v u)))
    (step_value a t kind v u)
step_stands a formed t kind v u b e =
    let T : Option ℕ → Type 0 = λ x. IsTold (looks_of a.states) a.reverse t x (known_after (families a) a.reverse t x) in record {
      ids = refl;
      need = refl;
      has = refl;
      small = starts_of-lt (seen_behind (looks_of a.states) a.reverse t u);
      reported = subst T (sym e) (behind_is_told (looks_of a.states) a.reverse t b);
      flagged = λ some. behind_is_flagged (looks_of a.states) a.reverse t u (is_some_kept a (states_after a t kind v u)) some;
      low = units_below a formed u (reading kind a (ids_before a t v u));
    }

module _ (kind : MatchKind) (a : Automaton) (t : Terminator) (h : List ℕ) (s e i q : ℕ) (formed : IsWellFormed a) (below : i ≤ e)
    (within : e ≤ length h) (low : q < length a.states) where
  abbrev text : Text
  text = span t h s e

  abbrev len : ℕ
  len = bytes_left a.reverse text i

  abbrev place : ℕ → ℕ
  place k = offset_of a.reverse i k

  abbrev unit : ℕ → Option ℕ
  unit k = unit_at a.reverse h (place k)

  abbrev state : ℕ → StateValue
  state k = value_after a t kind h i q k

  abbrev list : ℕ → List ℕ
  list k = lists_along kind a text i q k

  -- closed under all looks that hold, in the order of reading
  visits_by : (k : ℕ) → k ≤ len → (entries : List ℕ) → AreBelow (length a.states) entries →
      Visits nat_eq (λ x. on_nothing (node_at a x) (passed_by a.reverse t (unit_before a.reverse h (place k)) (unit k))) entries []
      (closed_by a (plain_steps a text (place k)) entries)
  visits_by k l entries under =
      stays_closed nat_eq names_equal (plain_steps a text (place k)) (λ x. on_nothing (node_at a x)
      (passed_by a.reverse t (unit_before a.reverse h (place k)) (unit k)))
      (closed_visits a formed text (place k) entries under)
      (λ x there. nothing_same (node_at a x) (λ m. is_satisfied a.reverse text m (place k))
      (passed_by a.reverse t (unit_before a.reverse h (place k)) (unit k))
      (λ m next is. looks_passed a.reverse t h s e (place k) (place_inside t h s e i k below within a.reverse l) m))

  -- a state at that offset has the states to which its entries lead
  comes_to : (k : ℕ) → k ≤ len → (have : ℕ) (entries : List ℕ) → IsStateOf a t (unit_before a.reverse h (place k)) have entries (state k) →
      kept_among a (ids_before a t (state k) (unit k)) ≡ kept_among a (closed_by a (plain_steps a text (place k)) entries)
  comes_to k l have entries stands =
      closes a formed t (unit_before a.reverse h (place k)) (unit k) have entries (state k) stands
      (made_below (λ x. on_nothing (node_at a x) (has_look have)) (length a.states)
      (stays_below a formed (has_look have)) entries stands.low)
      (closed_by a (plain_steps a text (place k)) entries) (visits_by k l entries stands.low)

  pub states_are : (k : ℕ) → k ≤ len → kept_among a (ids_before a t (state k) (unit k)) ≡ kept_among a (list k)
  states_are zero l =
      let S : Option ℕ → Type 0 = λ o. IsStateOf a t o (look_behind_of a t (start_of t (unit_before a.reverse h i))).look_have (q ∷ [])
      (state zero) in
      comes_to zero l (look_behind_of a t (start_of t (unit_before a.reverse h i))).look_have (q ∷ [])
      (subst S (ap (unit_before a.reverse h) (sym (place_zero a.reverse i))) (start_stands a t (unit_before a.reverse h i) q low))
  states_are (suc k) l =
      let less : k < len = omega (arith, l) in
      let before = states_are k (omega (arith, l)) in
      let is = unit_is t h s e i k below within a.reverse less in
      let have : ℕ = known_after (families a) a.reverse t (unit k) in
      let entries : List ℕ = flat_map (unit_steps a (unit k)) (reading kind a (ids_before a t (state k) (unit k))) in
      let S : Option ℕ → Type 0 = λ o. IsStateOf a t o have entries (state (suc k)) in
      comes_to (suc k) l have entries
      (subst S (sym (unit_passes t h s e i k below within a.reverse less)) (step_stands a formed t kind (state k) (unit k) is.0 is.1))
      ∙ ap (λ x. kept_among a (closed_by a (plain_steps a text (place (suc k))) x))
      (entries_alike a kind t h s e i k below within less (ids_before a t (state k) (unit k)) (list k) before)

  pub matches_are : (k : ℕ) → k ≤ len → (state (suc k)).matches ≡ patterns_in kind a (list k)
  matches_are k l = sym (kept_match a kind (ids_before a t (state k) (unit k))) ∙ ap (patterns_in kind a) (states_are k l)
      ∙ kept_match a kind (list k)
