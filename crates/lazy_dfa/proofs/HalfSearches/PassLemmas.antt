-- What a scan finds, by the matches that the states after its units list.
use Rattle.std.proofs.Common.{◌≡◌, ℕ, zero, suc, ◌<◌, ◌≤◌, Bool, true, false, List, length, Option, Some, None, if◌then◌else◌, refl, sym}
use Rattle.std.proofs.Common.{ap, ◌∙◌, ⊎_elim, subst}
use Rattle.std.specs.Option.{option_or}
use Rattle.search_types.specs.declared.match_kind.MatchKind.{MatchKind}
use Rattle.search_types.specs.declared.match_kind.MatchKind.TheVariants.{All as AllMatches, LeftmostFirst}
use Rattle.search_types.specs.declared.anchored.Anchored.{Anchored}
use Rattle.nfa_core.specs.Places.{first}
use Rattle.nfa_core.specs.Nfa.{IsWellFormed}
use Rattle.nfa_core.specs.Ways.{span, offset_of, bytes_left, ends_from}
use Rattle.determinize_core.specs.States.{StateValue, dead}
use Rattle.determinize_core.specs.Steps.{unit_at, unit_before, value_after}
use Rattle.determinize_core.specs.Walked.{end_at, latest_listed}
use Rattle.determinize_core.proofs.ForCallers.{stays_dead, latest_is_first, all_listed}
use Rattle.lazy_dfa.specs.Readers.{Reader, is_quit, HalfAnswer, found}
use Rattle.lazy_dfa.specs.Scans.{index_at, is_dead, unless_quit, best_recorded, next_value, next_offset, pass_from, start_name}
use Rattle.lazy_dfa.specs.Scans.{start_or_dead}
use Rattle.lazy_dfa.specs.Scans.{first_value, scan}
use Rattle.lazy_dfa.specs.ScanLaws.{IsLastEnd}
use Rattle.nfa_core.proofs.ForCallers.{ends_inside, place_zero}
use Rattle.lazy_dfa.proofs.HalfSearches.LastLemmas.{last_end}
use Rattle.lazy_dfa.proofs.HalfSearches.PassQuitLemmas.{found_in_mode}
use Rattle.lazy_dfa.proofs.HalfSearches.TurnLemmas.{place_next, dead_is, one_found, turn_found}

or_or : (x y z : Option (ℕ × ℕ)) → option_or x (option_or y z) ≡ option_or (option_or x y) z
or_or None y z = refl
or_or (Some x) y z = refl

pub dead_stays : (r : Reader) (h : List ℕ) (j : ℕ) → next_value r h j dead ≡ dead
unfolding next_value
dead_stays r h j = stays_dead r.automaton r.terminator r.kind (unit_at r.automaton.reverse h j)

or_none : (x : Option (ℕ × ℕ)) → option_or x None ≡ x
or_none None = refl
or_none (Some x) = refl

-- a turn whose rest is known to find this
pub finds_turn : (end : Bool) (quits : List Bool) (u : Option ℕ) (index : ℕ) (best o last : Option (ℕ × ℕ)) (rest : HalfAnswer) →
    (end ≡ true → last ≡ None) → (rest ≡ found o → o ≡ option_or last best) →
    (if end then found best else unless_quit quits u index rest) ≡ found o → o ≡ option_or last best
finds_turn end quits u index best o last rest dead on e = ⊎_elim
    (λ (ended : (end ≡ true) × (best ≡ o)). sym ended.1 ∙ sym (ap (λ (l : Option (ℕ × ℕ)). option_or l best) (dead ended.0)))
    (λ (goes : (end ≡ false) × (is_quit quits u ≡ false) × (rest ≡ found o)). on goes.2)
    (turn_found end quits u index best o rest e)

-- states that follow each other from offset i on
module _ (r : Reader) (h : List ℕ) (i : ℕ) (state : ℕ → StateValue)
    (steps : (k : ℕ) → state (suc k) ≡ next_value r h (offset_of r.automaton.reverse i k) (state k)) where
  abbrev place : ℕ → ℕ
  place k = offset_of r.automaton.reverse i k

  pub dead_next : (k : ℕ) → state k ≡ dead → state (suc k) ≡ dead
  dead_next k e = steps k ∙ ap (next_value r h (place k)) e ∙ dead_stays r h (place k)

  none_of_dead : (d k : ℕ) → state k ≡ dead → latest_listed state place d k ≡ None
  none_of_dead zero k e = ap (λ (v : StateValue). end_at (place k) (first v.matches)) (dead_next k e)
  none_of_dead (suc d) k e =
      ap (λ (o : Option (ℕ × ℕ)). option_or o (end_at (place k) (first (state (suc k)).matches)))
      (none_of_dead d (suc k) (dead_next k e))
      ∙ ap (λ (v : StateValue). end_at (place k) (first v.matches)) (dead_next k e)

  -- the scan from the next state is the scan from the state after the unit
  next_is : (n k : ℕ) (best o : Option (ℕ × ℕ)) →
      pass_from r false h n (next_offset r (place k)) (next_value r h (place k) (state k))
      (best_recorded (place k) (next_value r h (place k) (state k)) best) ≡ found o →
      pass_from r false h n (place (suc k)) (state (suc k)) (best_recorded (place k) (state (suc k)) best) ≡ found o
  next_is n k best o e =
      subst (λ (j : ℕ). pass_from r false h n j (state (suc k)) (best_recorded (place k) (state (suc k)) best) ≡ found o)
      (place_next r.automaton.reverse i k)
      (subst (λ (v : StateValue). pass_from r false h n (next_offset r (place k)) v (best_recorded (place k) v best) ≡ found o)
      (sym (steps k)) e)

  -- a scan finds the last match that is listed
  pub finds_latest : (d k : ℕ) (best o : Option (ℕ × ℕ)) → pass_from r false h (suc d) (place k) (state k) best ≡ found o →
      o ≡ option_or (latest_listed state place d k) best
  unfolding pass_from
  finds_latest zero k best o e =
      finds_turn (is_dead (state k)) r.quits (unit_at r.automaton.reverse h (place k))
      (index_at r.automaton.reverse (place k)) best o
      (latest_listed state place zero k) (found (best_recorded (place k) (next_value r h (place k) (state k)) best))
      (λ dead. none_of_dead zero k (dead_is (state k) dead))
      (λ is. sym (one_found (best_recorded (place k) (state (suc k)) best) o (next_is zero k best o is))) e
  finds_latest (suc d) k best o e =
      finds_turn (is_dead (state k)) r.quits (unit_at r.automaton.reverse h (place k))
      (index_at r.automaton.reverse (place k)) best o
      (latest_listed state place (suc d) k)
      (pass_from r false h (suc d) (next_offset r (place k)) (next_value r h (place k) (state k))
      (best_recorded (place k) (next_value r h (place k) (state k)) best))
      (λ dead. none_of_dead (suc d) k (dead_is (state k) dead))
      (λ is. finds_latest d (suc k) (best_recorded (place k) (state (suc k)) best) o (next_is (suc d) k best o is)
      ∙ or_or (latest_listed state place d (suc k)) (end_at (place k) (first (state (suc k)).matches)) best) e

-- a scan begins in the first of the states that follow each other
module _ (r : Reader) (h : List ℕ) (i q : ℕ) where
  abbrev pub walk : ℕ → StateValue
  walk k = value_after r.automaton r.terminator r.kind h i q k

  abbrev pub offset_after : ℕ → ℕ
  offset_after k = offset_of r.automaton.reverse i k

  pub walk_steps : (k : ℕ) → walk (suc k) ≡ next_value r h (offset_after k) (walk k)
  unfolding next_value
  walk_steps k = refl

  pub walk_starts : start_or_dead r (unit_before r.automaton.reverse h i) (Some q) ≡ walk 0
  unfolding start_or_dead
  walk_starts = refl

module _ (r : Reader) (mode : Anchored) (earliest : Bool) (h : List ℕ) (n i q : ℕ)
    (named : start_name r.automaton mode ≡ Some q) where
  abbrev before : Option ℕ
  before = unit_before r.automaton.reverse h i

  abbrev from_state : ℕ → StateValue → HalfAnswer
  from_state j v = pass_from r earliest h (suc n) j v None

  begins_there : from_state i (first_value r mode h i) ≡ from_state (offset_after r h i q 0) (walk r h i q 0)
  begins_there =
      ap (λ (name : Option ℕ). from_state i (start_or_dead r before name)) named
      ∙ ap (λ (v : StateValue). from_state i v) (walk_starts r h i q)
      ∙ ap (λ (j : ℕ). from_state j (walk r h i q 0)) (sym (place_zero r.automaton.reverse i))

  pub pass_begun : (o : Option (ℕ × ℕ)) → scan r mode earliest h n i ≡ found o →
      from_state (offset_after r h i q 0) (walk r h i q 0) ≡ found o
  pass_begun o e = sym begins_there ∙ (found_in_mode r mode earliest h n i o e).1

module _ (r : Reader) (mode : Anchored) (h : List ℕ) (s e i q : ℕ) (formed : IsWellFormed r.automaton) (below : i ≤ e)
    (within : e ≤ length h) (named : start_name r.automaton mode ≡ Some q) (low : q < length r.automaton.states) where
  abbrev left : ℕ
  left = bytes_left r.automaton.reverse (span r.terminator h s e) i

  pub pass_finds_latest : (o : Option (ℕ × ℕ)) → scan r mode false h left i ≡ found o →
      o ≡ latest_listed (walk r h i q) (offset_after r h i q) left 0
  pass_finds_latest o is =
      finds_latest r h i (walk r h i q) (walk_steps r h i q) left 0 None o (pass_begun r mode false h left i q named o is)
      ∙ or_none (latest_listed (walk r h i q) (offset_after r h i q) left 0)

  pub pass_finds_first : (o : Option (ℕ × ℕ)) → r.kind ≡ LeftmostFirst → scan r mode false h left i ≡ found o →
      o ≡ first (ends_from r.automaton (span r.terminator h s e) (i, q))
  pass_finds_first o kind is =
      pass_finds_latest o is
      ∙ ap (λ (m : MatchKind). latest_listed (value_after r.automaton r.terminator m h i q) (offset_after r h i q) left 0) kind
      ∙ latest_is_first r.automaton r.terminator h s e i q formed below within low

  -- under `All`, the last end
  pub pass_finds_last : (o : Option (ℕ × ℕ)) → r.kind ≡ AllMatches → scan r mode false h left i ≡ found o →
      IsLastEnd r.automaton.reverse (ends_from r.automaton (span r.terminator h s e) (i, q)) o
  pass_finds_last o kind is =
      last_end r.automaton.reverse i left (ends_from r.automaton (span r.terminator h s e) (i, q))
      (value_after r.automaton r.terminator AllMatches h i q)
      (ends_inside r.automaton (span r.terminator h s e) i q formed (below, low))
      (λ k l. all_listed r.automaton r.terminator h s e i q formed below within low k l)
      o
      (sym (pass_finds_latest o is
      ∙ ap (λ (m : MatchKind). latest_listed (value_after r.automaton r.terminator m h i q) (offset_after r h i q) left 0) kind))
