-- Offsets of a span that an overlapping search reads: how far a call gets between two of them. If no end counts between them, what is left
-- at one is what is left at the later one.
use Rattle.std.proofs.Common.{◌≡◌, ◌≢◌, ◌⊎◌, inl, inr, ℕ, suc, ◌+◌, ◌-◌, min, Bool, true, false, if◌then◌else◌, sym, ap, ◌∙◌, arith}
use Rattle.std.proofs.lemmas.Bool.{cases_eq, ne_eqb, eq-eqb}
use Rattle.std.proofs.Math.Nat.{min-eq_left, min-eq_right}
use Rattle.nfa_core.specs.Ways.{offset_of}
use Rattle.determinize_core.specs.States.{StateValue}
use Rattle.search_types.specs.Inputs.{Search}
use Rattle.lazy_dfa.specs.Caches.{distance}
use Rattle.lazy_dfa.specs.Courses.{state_after, AreRead}
use Rattle.lazy_dfa.specs.Scans.{index_at, first_value, next_value}
use Rattle.lazy_dfa.specs.Readers.{Reader}
use Rattle.lazy_dfa.specs.HalfSearches.{first_offset}
use Rattle.lazy_dfa.specs.HalfSearchLaws.{begins_at}
use Rattle.lazy_dfa.specs.SearchAnswers.{scan_distance}
use Rattle.lazy_dfa.specs.ScanOffsets.{last_offset, came, left_at, IsWithinSpan, gave_up_at}
use Rattle.lazy_dfa.specs.Overlapping.{rest_from, value_past}
use Rattle.lazy_dfa.specs.OverlappingAnswers.{units_met, value_before, rest_at, units_at}
use Rattle.lazy_dfa.specs.OverlappingTurns.{ReportsNone}
use Rattle.lazy_dfa.proofs.Courses.CourseLemmas.{state_there}
use Rattle.lazy_dfa.proofs.OverlappingWalks.WalkRestLemmas.{goes_left, goes_units}
use Rattle.nfa_core.proofs.ForCallers.{place_zero}

-- ---- offsets

pub place_came : (is_reverse : Bool) (q : Search) (at : ℕ) → IsWithinSpan q at →
    offset_of is_reverse (first_offset is_reverse q.start q.end) (came is_reverse q at) ≡ at
place_came false q at w = omega (arith, w.0, w.1)
place_came true q at w = omega (arith, w.0, w.1)

came_later : (is_reverse : Bool) (q : Search) (a c l : ℕ) → IsWithinSpan q a → IsWithinSpan q c →
    left_at is_reverse q a ≡ l + left_at is_reverse q c → came is_reverse q a + l ≡ came is_reverse q c
came_later false q a c l w x e = omega (arith, w.0, w.1, x.0, x.1, e)
came_later true q a c l w x e = omega (arith, w.0, w.1, x.0, x.1, e)

pub left_next : (is_reverse : Bool) (q : Search) (a c : ℕ) → IsWithinSpan q a → a ≢ last_offset is_reverse q →
    c ≡ offset_of is_reverse a 1 →
    left_at is_reverse q a ≡ 1 + left_at is_reverse q c
left_next false q a c w n e = omega (arith, w.0, w.1, n, e)
left_next true q a c w n e = omega (arith, w.0, w.1, n, e)

-- how far a call gets that begins at one offset and ends with the unit at another one
pub comes_far : (is_reverse : Bool) (q : Search) (a c l : ℕ) → IsWithinSpan q a → IsWithinSpan q c →
    left_at is_reverse q a ≡ l + left_at is_reverse q c →
    distance (gave_up_at is_reverse q a) (gave_up_at is_reverse q c) ≡ scan_distance is_reverse (left_at is_reverse q a) (l + 1)
comes_far is_reverse q a c l w x e = by is_reverse (cases_eq a (last_offset is_reverse q)) (cases_eq c (last_offset is_reverse q)) w x e
  where
    at_last : (is_reverse : Bool) (i : ℕ) → i ≡ last_offset is_reverse q → gave_up_at is_reverse q i ≡ i
    at_last is_reverse i f = ap (λ (b : Bool). if b then i else index_at is_reverse i) (eq-eqb i (last_offset is_reverse q) f)

    before : (is_reverse : Bool) (i : ℕ) → i ≢ last_offset is_reverse q → gave_up_at is_reverse q i ≡ index_at is_reverse i
    before is_reverse i f = ap (λ (b : Bool). if b then i else index_at is_reverse i) (ne_eqb i (last_offset is_reverse q) f)

    joined : (is_reverse : Bool) (i j : ℕ) → gave_up_at is_reverse q a ≡ i → gave_up_at is_reverse q c ≡ j →
        distance i j ≡ scan_distance is_reverse (left_at is_reverse q a) (l + 1) →
        distance (gave_up_at is_reverse q a) (gave_up_at is_reverse q c) ≡ scan_distance is_reverse (left_at is_reverse q a) (l + 1)
    joined is_reverse i j f g k = ap (λ (x : ℕ). distance x (gave_up_at is_reverse q c)) f ∙ (ap (distance i) g ∙ k)

    forward_same : (i j : ℕ) → q.end - i ≡ l + (q.end - j) → IsWithinSpan q i → IsWithinSpan q j → distance i j ≡ l + 1 - 1
    forward_same i j f w x = omega (arith, f, w.0, w.1, x.0, x.1)

    to_byte : (i j : ℕ) → i - q.start ≡ l + (j - q.start) → IsWithinSpan q i → IsWithinSpan q j → j ≢ q.start →
        distance (i - 1) (j - 1) ≡ min (l + 1 - 1) (i - q.start - 1)
    to_byte i j f w x n =
        let m : min (l + 1 - 1) (i - q.start - 1) ≡ l + 1 - 1 = min-eq_left (omega (arith, f, w.0, w.1, x.0, x.1, n)) in
        omega (arith, f, w.0, w.1, x.0, x.1, n, m)

    to_last : (i j : ℕ) → i - q.start ≡ l + (j - q.start) → IsWithinSpan q i → IsWithinSpan q j → i ≢ q.start → j ≡ q.start →
        distance (i - 1) j ≡ min (l + 1 - 1) (i - q.start - 1)
    to_last i j f w x n e =
        let m : min (l + 1 - 1) (i - q.start - 1) ≡ i - q.start - 1 = min-eq_right (omega (arith, f, w.0, w.1, x.0, x.1, n, e)) in
        omega (arith, f, w.0, w.1, x.0, x.1, n, e, m)

    none : (i j : ℕ) → i ≡ q.start → i - q.start ≡ l + (j - q.start) → IsWithinSpan q i → IsWithinSpan q j →
        distance i j ≡ min (l + 1 - 1) (i - q.start - 1)
    none i j e f w x =
        let m : min (l + 1 - 1) (i - q.start - 1) ≡ l + 1 - 1 = min-eq_left (omega (arith, f, w.0, w.1, x.0, x.1, e)) in
        omega (arith, f, w.0, w.1, x.0, x.1, e, m)

    none_left_there : (i j : ℕ) → i ≡ q.start → i - q.start ≡ l + (j - q.start) → IsWithinSpan q j → j ≡ q.start
    none_left_there i j e f x = omega (arith, e, f, x.0)

    by : (is_reverse : Bool) → (a ≡ last_offset is_reverse q) ⊎ (a ≢ last_offset is_reverse q) → (c ≡ last_offset is_reverse q) ⊎
        (c ≢ last_offset is_reverse q) → IsWithinSpan q a → IsWithinSpan q c →
        left_at is_reverse q a ≡ l + left_at is_reverse q c → distance (gave_up_at is_reverse q a)
        (gave_up_at is_reverse q c) ≡ scan_distance is_reverse (left_at is_reverse q a) (l + 1)
    by false (inl f) (inl g) w x e = joined false a c (at_last false a f) (at_last false c g) (forward_same a c e w x)
    by false (inl f) (inr g) w x e = joined false a c (at_last false a f) (before false c g) (forward_same a c e w x)
    by false (inr f) (inl g) w x e = joined false a c (before false a f) (at_last false c g) (forward_same a c e w x)
    by false (inr f) (inr g) w x e = joined false a c (before false a f) (before false c g) (forward_same a c e w x)
    by true (inl f) (inl g) w x e = joined true a c (at_last true a f) (at_last true c g) (none a c f e w x)
    by true (inl f) (inr g) w x e = absurd (g (none_left_there a c f e x))
    by true (inr f) (inl g) w x e = joined true (a - 1) c (before true a f) (at_last true c g) (to_last a c e w x f g)
    by true (inr f) (inr g) w x e = joined true (a - 1) (c - 1) (before true a f) (before true c g) (to_byte a c e w x g)

-- ---- states at offsets of the span

module _ (r : Reader) (q : Search) (a : ℕ) (w : IsWithinSpan q a) where
  there : a ≡ offset_of r.automaton.reverse (begins_at r q) (came r.automaton.reverse q a)
  there = sym (place_came r.automaton.reverse q a w)

  abbrev value : StateValue
  value = value_before r q a

  pub past_next : value_past r q a ≡ next_value r q.haystack a value
  past_next = ap (λ (i : ℕ). next_value r q.haystack i value) (sym there)

  pub past_one : state_after r q.haystack a value 1 ≡ value_past r q a
  past_one = ap (λ (i : ℕ). next_value r q.haystack i value) (place_zero r.automaton.reverse a) ∙ sym past_next

  module _ (c l : ℕ) (x : IsWithinSpan q c) (left : left_at r.automaton.reverse q a ≡ l + left_at r.automaton.reverse q c) where
    pub value_later : state_after r q.haystack a value l ≡ value_before r q c
    value_later =
        state_there r q.haystack (begins_at r q) a (came r.automaton.reverse q a) there
        (first_value r q.anchored q.haystack (begins_at r q)) l
        ∙ ap (state_after r q.haystack (begins_at r q) (first_value r q.anchored q.haystack (begins_at r q)))
        (came_later r.automaton.reverse q a c l w x left)

    abbrev whole : ℕ
    whole = suc (left_at r.automaton.reverse q a)

    abbrev remaining : ℕ
    remaining = suc (left_at r.automaton.reverse q c)

    split : whole ≡ l + remaining
    split = omega (arith, left)

    module _ (place : c ≡ offset_of r.automaton.reverse a l) (read : AreRead r q.haystack a value l)
        (none : ReportsNone r q.haystack a value l) where
      pub rest_later : rest_at r q a ≡ rest_at r q c
      rest_later =
          ap (λ (n : ℕ). rest_from r q.haystack n a value) split
          ∙ (goes_left r q.haystack a value l remaining read none
          ∙ (ap (λ (i : ℕ). rest_from r q.haystack remaining i (state_after r q.haystack a value l)) (sym place)
          ∙ ap (rest_from r q.haystack remaining c) value_later))

      pub units_later : units_at r q a ≡ l + units_at r q c
      units_later =
          ap (λ (n : ℕ). units_met r q.haystack n a value) split
          ∙ (goes_units r q.haystack a value l remaining read none
          ∙ (ap (λ (i : ℕ). l + units_met r q.haystack remaining i (state_after r q.haystack a value l)) (sym place)
          ∙ ap (λ (s : StateValue). l + units_met r q.haystack remaining c s) value_later))
