-- What is left of an overlapping search, unit by unit. It goes on over units after which no end counts, and comes to an end, to an error,
-- or to nothing more.
use Rattle.std.proofs.Common.{◌≡◌, ℕ, zero, suc, ◌+◌, ◌<◌, ◌≤◌, ◌&&◌, not, Bool, true, false, true≢false, List, [], ◌∷◌, length, map, drop}
use Rattle.std.proofs.Common.{is_some, Option, Some, None, Ok, if◌then◌else◌, refl, sym, ap, ◌∙◌, arith}
use Rattle.std.specs.Option.{option_or}
use Rattle.search_core.specs.ByteSets.{has}
use Rattle.search_types.specs.declared.match_error.MatchErrorKind.TheVariants.{Quit}
use Rattle.search_types.specs.Places.{counts}
use Rattle.nfa_core.specs.Places.{first}
use Rattle.nfa_core.specs.Ways.{offset_of}
use Rattle.determinize_core.specs.States.{StateValue}
use Rattle.determinize_core.specs.Steps.{unit_at}
use Rattle.determinize_core.specs.Walked.{end_at}
use Rattle.lazy_dfa.specs.Courses.{state_after, AreRead}
use Rattle.lazy_dfa.specs.Scans.{index_at, is_empty, is_dead, next_value, next_offset}
use Rattle.lazy_dfa.specs.Readers.{Reader, is_quit}
use Rattle.lazy_dfa.specs.Overlapping.{Rest, nothing_left, refused, onto, others, unless_quit_at, end_of, listed, rest_from}
use Rattle.lazy_dfa.specs.OverlappingAnswers.{units_met, result_left, stop_after}
use Rattle.lazy_dfa.specs.declared.overlapping.overlapping_state.OverlappingPosition.TheVariants.{Stopped}
use Rattle.lazy_dfa.specs.OverlappingTurns.{reports_end, ReportsNone}
use Rattle.lazy_dfa.proofs.HalfSearches.TurnLemmas.{place_next}
use Rattle.nfa_core.proofs.ForCallers.{place_zero}
use Rattle.lazy_dfa.proofs.OverlappingWalks.RestLemmas.{past_other}

-- ---- quit bytes

quit_unit : (quits : List Bool) (u : Option ℕ) (index b : ℕ) (rest : Rest) → u ≡ Some b → has quits b ≡ true →
    unless_quit_at quits u index rest ≡ refused (Quit b index)
quit_unit quits u index b rest e f =
    ap (λ (x : Option ℕ). unless_quit_at quits x index rest) e ∙ ap (λ (q : Bool). if q then refused (Quit b index) else rest) f

-- ---- listed ends

pub none_listed : (counted : Bool) (at : ℕ) (ms : List ℕ) → (counted && not (is_empty ms)) ≡ false →
    (if counted then map (end_of at) ms else []) ≡ []
none_listed false at ms e = refl
none_listed true at [] e = refl
none_listed true at (m ∷ ms) e = absurd (true≢false e)

-- If ends are listed, the first of them is reported next. The others are what is left of an overlapping search that stopped after it.
pub some_listed : (counted : Bool) (at : ℕ) (ms : List ℕ) (best : Option (ℕ × ℕ)) (rest : Rest) → (counted && not (is_empty ms)) ≡ true →
    (result_left (onto (if counted then map (end_of at) ms else []) rest).ends
    (onto (if counted then map (end_of at) ms else []) rest).rejection ≡ Ok tt) ×
    (first (onto (if counted then map (end_of at) ms else []) rest).ends ≡ option_or (end_at at (first ms)) best) ×
    (onto (if counted then map (end_of at) (drop 1 ms) else []) rest ≡ others (onto (if counted then map (end_of at) ms else []) rest)) ×
    (1 ≤ length ms) × (option_or (end_at at (first ms)) best ≡ None → ⊥)
some_listed false at ms best rest e = absurd (true≢false (sym e))
some_listed true at [] best rest e = absurd (true≢false (sym e))
some_listed true at (m ∷ ms) best rest e = (refl, refl, refl, omega arith, λ f. true≢false (ap is_some f))

-- an overlapping search that reported this end stops at its offset
pub stops_first : (counted : Bool) (at : ℕ) (ms : List ℕ) (rest : Rest) → (counted && not (is_empty ms)) ≡ true →
    stop_after 1 (first (onto (if counted then map (end_of at) ms else []) rest).ends) ≡ Stopped (record { id = 0; index = 1; at = at })
stops_first false at ms rest e = absurd (true≢false (sym e))
stops_first true at [] rest e = absurd (true≢false (sym e))
stops_first true at (m ∷ ms) rest e = refl

-- ---- one unit

module _ (r : Reader) (h : List ℕ) (n i : ℕ) (v : StateValue) where
  abbrev next : StateValue
  next = next_value r h i v

  abbrev later : Rest
  later = rest_from r h n (next_offset r i) next

  abbrev here : List (ℕ × ℕ)
  here = listed (counts r.between_characters h) i next.matches

  pub none_left : rest_from r h 0 i v ≡ nothing_left
  unfolding rest_from
  none_left = refl

  pub dead_left : (m : ℕ) → is_dead v ≡ true → rest_from r h m i v ≡ nothing_left
  unfolding rest_from
  dead_left zero e = refl
  dead_left (suc m) e = ap (λ (d : Bool). if d then nothing_left else
      unless_quit_at r.quits (unit_at r.automaton.reverse h i) (index_at r.automaton.reverse i)
      (onto (listed (counts r.between_characters h) i next.matches) (rest_from r h m (next_offset r i) next))) e

  alive_left : is_dead v ≡ false →
      rest_from r h (suc n) i v ≡ unless_quit_at r.quits (unit_at r.automaton.reverse h i) (index_at r.automaton.reverse i)
      (onto here later)
  unfolding rest_from
  alive_left e = ap (λ (d : Bool). if d then nothing_left else
      unless_quit_at r.quits (unit_at r.automaton.reverse h i) (index_at r.automaton.reverse i) (onto here later)) e

  pub step_left : is_dead v ≡ false → is_quit r.quits (unit_at r.automaton.reverse h i) ≡ false →
      rest_from r h (suc n) i v ≡ onto here later
  step_left e f = alive_left e ∙ past_other r.quits (unit_at r.automaton.reverse h i) (index_at r.automaton.reverse i) (onto here later) f

  pub quit_left : (b : ℕ) → is_dead v ≡ false → unit_at r.automaton.reverse h i ≡ Some b → has r.quits b ≡ true →
      rest_from r h (suc n) i v ≡ refused (Quit b (index_at r.automaton.reverse i))
  quit_left b e f g = alive_left e ∙ quit_unit r.quits (unit_at r.automaton.reverse h i) (index_at r.automaton.reverse i) b
      (onto here later) f g

  pub pass_left : is_dead v ≡ false → is_quit r.quits (unit_at r.automaton.reverse h i) ≡ false → reports_end r h i next ≡ false →
      rest_from r h (suc n) i v ≡ later
  pass_left e f g = step_left e f ∙ ap (λ (x : List (ℕ × ℕ)). onto x later) (none_listed (counts r.between_characters h i) i next.matches g)

  -- how many units are met

  abbrev more : Bool → ℕ
  more reports = if reports then 1 else suc (units_met r h n (next_offset r i) next)

  alive_units : is_dead v ≡ false → units_met r h (suc n) i v ≡ more (reports_end r h i next)
  alive_units e = ap (λ (d : Bool). if d then 0 else more (reports_end r h i next)) e

  pub pass_units : is_dead v ≡ false → reports_end r h i next ≡ false → units_met r h (suc n) i v ≡ suc
      (units_met r h n (next_offset r i) next)
  pass_units e f = alive_units e ∙ ap more f

  pub tell_units : is_dead v ≡ false → reports_end r h i next ≡ true → units_met r h (suc n) i v ≡ 1
  tell_units e f = alive_units e ∙ ap more f

  pub some_units : is_dead v ≡ false → 0 < units_met r h (suc n) i v
  some_units e = by (reports_end r h i next) (alive_units e)
    where
      by : (reports : Bool) → units_met r h (suc n) i v ≡ more reports → 0 < units_met r h (suc n) i v
      by true f = omega (arith, f)
      by false f = omega (arith, f)

-- ---- many units

module _ (r : Reader) (h : List ℕ) (i : ℕ) (v : StateValue) where
  abbrev place : ℕ → ℕ
  place k = offset_of r.automaton.reverse i k

  abbrev state : ℕ → StateValue
  state k = state_after r h i v k

  fewer : (m : ℕ) → AreRead r h i v (suc m) → AreRead r h i v m
  fewer m all k l = all k (omega (arith, l))

  fewer_tell : (m : ℕ) → ReportsNone r h i v (suc m) → ReportsNone r h i v m
  fewer_tell m all k l = all k (omega (arith, l))

  none_more : (n : ℕ) → 0 + n ≡ n
  none_more n = omega arith

  pub goes_left : (m n : ℕ) → AreRead r h i v m → ReportsNone r h i v m → rest_from r h (m + n) i v ≡ rest_from r h n (place m) (state m)
  goes_left zero n read none = ap (λ (k : ℕ). rest_from r h k i v) (none_more n)
      ∙ ap (λ (j : ℕ). rest_from r h n j v) (sym (place_zero r.automaton.reverse i))
  goes_left (suc m) n read none =
      let same : suc m + n ≡ m + suc n = omega arith in
      let at = read m (omega arith) in
      ap (λ (k : ℕ). rest_from r h k i v) same
      ∙ goes_left m (suc n) (fewer m read) (fewer_tell m none)
      ∙ pass_left r h n (place m) (state m) at.alive at.quiet (none m (omega arith))
      ∙ ap (λ (j : ℕ). rest_from r h n j (state (suc m))) (place_next r.automaton.reverse i m)

  pub goes_units : (m n : ℕ) → AreRead r h i v m → ReportsNone r h i v m →
      units_met r h (m + n) i v ≡ m + units_met r h n (place m) (state m)
  goes_units zero n read none =
      ap (λ (k : ℕ). units_met r h k i v) (none_more n) ∙ (ap (λ (j : ℕ). units_met r h n j v) (sym (place_zero r.automaton.reverse i))
      ∙ sym (none_more (units_met r h n (place 0) v)))
  goes_units (suc m) n read none =
      let same : suc m + n ≡ m + suc n = omega arith in
      let before = goes_units m (suc n) (fewer m read) (fewer_tell m none) in
      let one = pass_units r h n (place m) (state m) (read m (omega arith)).alive (none m (omega arith))
      ∙ ap (λ (j : ℕ). suc (units_met r h n j (state (suc m)))) (place_next r.automaton.reverse i m) in
      ap (λ (k : ℕ). units_met r h k i v) same ∙ (before ∙ (ap (λ (k : ℕ). m + k) one
      ∙ one_later m (units_met r h n (place (suc m)) (state (suc m)))))
    where
      one_later : (m k : ℕ) → m + suc k ≡ suc m + k
      one_later m k = omega arith
