-- The parts of which a step of powerset states is made.
use Rattle.std.proofs.Common.{◌≡◌, ℕ, ◌≤◌, ◌==◌, true, false, not, Bool, List, length, Option, ◌&&◌, ◌||◌, sym, ap, ◌∙◌, cond, []}
use Rattle.std.proofs.Common.{All, ◌<◌, subst}
use Rattle.std.specs.Bool.{nat_eq}
use Rattle.std.specs.Int.Bits.{and_zero_r}
use Rattle.std.specs.List.{IsDistinct, flat_map}
use Rattle.search_types.specs.declared.match_kind.MatchKind.{MatchKind}
use Rattle.look_core.specs.Looks.{byte_side, is_word, is_byte}
use Rattle.look_core.specs.LookSets.{shared_by, without}
use Rattle.look_core.specs.Terminators.{Terminator}
use Rattle.nfa_core.specs.Walks.{distinct}
use Rattle.nfa_core.specs.Nfa.{Automaton}
use Rattle.nfa_core.proofs.ForCallers.{has_from_all}
use Rattle.determinize_core.specs.States.{StateValue, dead}
use Rattle.determinize_core.specs.Steps.{closed, known_before, gains, ids_before, families, first_half, patterns_in, known_after}
use Rattle.determinize_core.specs.Steps.{unit_steps, reading, states_after, begun, is_some_kept, with_states, step_value}
use Rattle.determinize_core.proofs.CloseAllLemmas.{distinct_already}
use Rattle.determinize_core.proofs.CloseAllLemmas.{few_once}

module _ (a : Automaton) (t : Terminator) (v : StateValue) (u : Option ℕ) where
  -- the states at the offset, if the unit decides a needed look and if it doesn't
  by_gain : (b : Bool) → gains v (known_before a.reverse t v u) ≡ b → ids_before a t v u ≡ cond b
      (closed a (known_before a.reverse t v u) v.ids) v.ids
  by_gain b e = ap (λ (g : Bool). cond g (closed a (known_before a.reverse t v u) v.ids) v.ids) e

  -- a state that needs no looks gains none
  pub gains_nothing : v.look_need ≡ 0 → gains v (known_before a.reverse t v u) ≡ false
  gains_nothing none =
      let new : ℕ = without (known_before a.reverse t v u) v.look_have in
      ap (λ (s : ℕ). not (s == 0)) (ap (shared_by new) none ∙ and_zero_r new)

  pub before_without_looks : IsDistinct nat_eq v.ids → (put : List ℕ) → put ≡ distinct nat_eq v.ids → (need : ℕ) → need ≡ v.look_need →
      need ≡ 0 → put ≡ ids_before a t v u
  before_without_looks once put is need needed none = is ∙ (distinct_already v.ids once
      ∙ sym (by_gain false (gains_nothing (sym needed ∙ none))))

  module _ (once : IsDistinct nat_eq v.ids) (looks : ℕ) (known : looks ≡ known_before a.reverse t v u) (put : List ℕ)
      (is : put ≡ distinct nat_eq v.ids) (b : Bool) (reported : b ≡ gains v looks) where
    put_is : put ≡ v.ids
    put_is = is ∙ distinct_already v.ids once

    told_before : gains v (known_before a.reverse t v u) ≡ b
    told_before = ap (gains v) (sym known) ∙ sym reported

    pub before_same : b ≡ false → put ≡ ids_before a t v u
    before_same none = put_is ∙ sym (by_gain false (told_before ∙ none))

    pub before_gained : b ≡ true → (new : List ℕ) → new ≡ closed a looks put → new ≡ ids_before a t v u
    before_gained some new e = e ∙ (ap (λ (l : ℕ). closed a l put) known
        ∙ (ap (closed a (known_before a.reverse t v u)) put_is ∙ sym (by_gain true (told_before ∙ some))))

    pub put_few : All (λ q. q < length a.states) v.ids → length put ≤ length a.states
    put_few below = subst (λ (qs : List ℕ). length qs ≤ length a.states) (sym put_is)
        (few_once (length a.states) v.ids once (has_from_all (length a.states) v.ids below))

-- ---- the state after the unit

module _ (a : Automaton) (t : Terminator) (kind : MatchKind) (v : StateValue) (u : Option ℕ) where
  -- what is known after the unit, by these looks, these states at the offset, and whether states after it are kept
  abbrev begun_by : ℕ → List ℕ → Bool → StateValue
  begun_by looks ids some = record {
    is_from_word = (families a).words && (is_word (byte_side u) && some);
    is_half_crlf = (families a).crlf && (is_byte (first_half a.reverse) u && some);
    look_have = looks;
    look_need = 0;
    matches = patterns_in kind a ids;
    ids = [];
  }

  abbrev with_flags : StateValue → Bool → StateValue
  with_flags w some = record w {
    is_from_word = w.is_from_word || ((families a).words && (is_word (byte_side u) && some));
    is_half_crlf = w.is_half_crlf || ((families a).crlf && (is_byte (first_half a.reverse) u && some));
  }

  module _ (looks : ℕ) (known : looks ≡ known_after (families a) a.reverse t u) (ids : List ℕ) (here : ids ≡ ids_before a t v u)
      (set : List ℕ) (closure : set ≡ closed a looks (flat_map (unit_steps a u) (reading kind a ids))) where
    set_is : set ≡ states_after a t kind v u
    set_is = closure ∙ (ap (λ (l : ℕ). closed a l (flat_map (unit_steps a u) (reading kind a ids))) known
        ∙ ap (λ (qs : List ℕ). closed a (known_after (families a) a.reverse t u) (flat_map (unit_steps a u) (reading kind a qs))) here)

    pub builds : (w x y z b : StateValue) (some : Bool) → w ≡ dead → x ≡ record w { look_have = looks } →
        y ≡ record x { matches = patterns_in kind a ids } →
        some ≡ is_some_kept a set → z ≡ with_flags y some → (m : StateValue) → m ≡ z → b ≡ with_states a set m → b ≡ step_value a t kind v u
    builds w x y z b some none reported listed kept_some flags m same built =
        let first : y ≡ record dead { look_have = looks; matches = patterns_in kind a ids } =
        listed ∙ (ap (λ (s : StateValue). record s { matches = patterns_in kind a ids }) reported
        ∙ ap (λ (s : StateValue). record s { look_have = looks; matches = patterns_in kind a ids }) none) in
        let second : z ≡ begun_by looks ids some = flags ∙ ap (λ (s : StateValue). with_flags s some) first in
        let third : begun_by looks ids some ≡ begun a t kind v u =
        ap (λ (l : ℕ). begun_by l ids some) known
        ∙ (ap (λ (qs : List ℕ). begun_by (known_after (families a) a.reverse t u) qs some) here
        ∙ ap (begun_by (known_after (families a) a.reverse t u) (ids_before a t v u)) (kept_some ∙ ap (is_some_kept a) set_is)) in
        built ∙ (ap (with_states a set) (same ∙ (second ∙ third)) ∙ ap (λ (qs : List ℕ). with_states a qs (begun a t kind v u)) set_is)
