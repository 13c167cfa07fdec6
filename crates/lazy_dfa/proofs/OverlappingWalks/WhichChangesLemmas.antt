-- What the calls of an overlapping search over a whole span change: they make states of the span.
use Rattle.std.proofs.Common.{◌≡◌, ◌≢◌, ℕ, zero, suc, ◌+◌, ◌≤◌, ◌==◌, ◌&&◌, ◌||◌, not, Bool, true, false, List, refl, sym, ap, ◌∙◌}
use Rattle.std.proofs.Common.{inl, inr, arith, true≢false, if◌then◌else◌, Option, Some}
use Rattle.std.specs.Prelude.{nat_le}
use Rattle.std.proofs.lemmas.Bool.{and_parts, leb-true, eq-eqb}
use Rattle.determinize_core.specs.States.{StateValue}
use Rattle.search_types.specs.Inputs.{Search}
use Rattle.search_types.specs.Modes.{is_supported}
use Rattle.search_types.specs.Places.{counts}
use Rattle.lazy_dfa.specs.Courses.{state_after}
use Rattle.lazy_dfa.specs.declared.overlapping.overlapping_state.Stop.{Stop}
use Rattle.lazy_dfa.specs.declared.overlapping.overlapping_state.OverlappingPosition.{OverlappingPosition}
use Rattle.lazy_dfa.specs.declared.overlapping.overlapping_state.OverlappingPosition.TheVariants.{Fresh, Ended, Failed, Stopped}
use Rattle.lazy_dfa.specs.Dfas.{Dfa, reader}
use Rattle.lazy_dfa.specs.MadeScans.{span_len}
use Rattle.lazy_dfa.specs.ScanOffsets.{IsWithinSpan, last_offset, left_at, came}
use Rattle.lazy_dfa.specs.Scans.{first_value, is_empty, is_dead, next_value, next_offset}
use Rattle.lazy_dfa.specs.Readers.{Reader}
use Rattle.lazy_dfa.specs.HalfSearchLaws.{begins_at}
use Rattle.lazy_dfa.specs.OverlappingAnswers.{units_met, lists_more, reads_on, call_offset, units_there, call_units, IsMadeOnCall}
use Rattle.lazy_dfa.specs.OverlappingAnswers.{IsMadeOnOverlapping}
use Rattle.lazy_dfa.proofs.Courses.CourseLemmas.{state_there}
use Rattle.lazy_dfa.proofs.OverlappingWalks.WalkLeftLemmas.{first_within, next_within, came_next}
use Rattle.lazy_dfa.proofs.OverlappingWalks.WalkPlaceLemmas.{place_came}
use Rattle.lazy_dfa.proofs.OverlappingWalks.WalkQuitLemmas.{came_first}
use Rattle.lazy_dfa.proofs.OverlappingWalks.WhichBudgetLemmas.{IsWithinWalk, left_and_came}

-- at most as many units are read as there are
pub units_at_most : (r : Reader) (h : List ℕ) (n i : ℕ) (v : StateValue) → units_met r h n i v ≤ n
units_at_most r h zero i v = omega arith
units_at_most r h (suc n) i v = by (is_dead v) (counts r.between_characters h i && not (is_empty (next_value r h i v).matches))
    (units_at_most r h n (next_offset r i) (next_value r h i v))
  where
    by : (dead reports : Bool) → units_met r h n (next_offset r i) (next_value r h i v) ≤ n →
        (if dead then 0 else if reports then 1 else suc (units_met r h n (next_offset r i) (next_value r h i v))) ≤ suc n
    by true reports l = omega arith
    by false true l = omega arith
    by false false l = omega (arith, l)

module _ (r : Reader) (q : Search) where
  abbrev rev : Bool
  rev = r.automaton.reverse

  is_apart : (stop : Stop) → reads_on r q (Stopped stop) ≡ true → stop.at ≢ last_offset rev q
  is_apart stop on e = true≢false (sym on ∙ ap not (either (lists_more r q stop) ∙ refl))
    where
      here : (stop.at == last_offset rev q) ≡ true
      here = eq-eqb stop.at (last_offset rev q) e

      either : (b : Bool) → (b || stop.at == last_offset rev q) ≡ true
      either true = refl
      either false = here

  -- a call that reads begins in the span, and gets no further than the last unit of the span
  call_within : (w : OverlappingPosition) → IsWithinWalk q w → reads_on r q w ≡ true → IsWithinSpan q (call_offset r q w)
  call_within Fresh within on =
      first_within rev q (leb-true q.start q.end
      (and_parts (nat_le q.start q.end) (is_supported r.starts_for_each_pattern q.anchored) on).0)
  call_within Ended within on = absurd (true≢false (sym on))
  call_within (Failed e) within on = absurd (true≢false (sym on))
  call_within (Stopped stop) within on = next_within rev q stop.at within (is_apart stop on)

  call_far : (w : OverlappingPosition) → IsWithinWalk q w → reads_on r q w ≡ true →
      came rev q (call_offset r q w) + units_there r q w ≤ suc (span_len q)
  call_far Fresh within on =
      let few = units_at_most r q.haystack (suc (span_len q)) (begins_at r q) (first_value r q.anchored q.haystack (begins_at r q)) in
      let none = came_first rev q in
      omega (arith, few, none)
  call_far Ended within on = absurd (true≢false (sym on))
  call_far (Failed e) within on = absurd (true≢false (sym on))
  call_far (Stopped stop) within on =
      let few : units_there r q (Stopped stop) ≤ left_at rev q stop.at = units_at_most r q.haystack (left_at rev q stop.at) _ _ in
      let next = came_next rev q stop.at within (is_apart stop on) in
      let all = left_and_came rev q stop.at within in
      omega (arith, few, next, all)

-- a state of a call is a state of the overlapping search over the whole span
pub on_walk : (d : Dfa) (q : Search) (w : OverlappingPosition) → IsWithinWalk q w → (b : Bool) (o : Option StateValue) (s : StateValue) →
    IsMadeOnCall d q w b o s → IsMadeOnOverlapping d q b o s
on_walk d q w within b o s (inl x) = inl x.first
on_walk d q w within b o s (inr (e, (k, lt, are, from, is))) = by (reads_on (reader d) q w) refl
  where
    by : (on : Bool) → reads_on (reader d) q w ≡ on → IsMadeOnOverlapping d q b o s
    by false off =
        let none : call_units (reader d) q w ≡ 0 = ap (λ (y : Bool). if y then units_there (reader d) q w else 0) off in
        absurd (omega (arith, lt, none))
    by true on =
        let all : call_units (reader d) q w ≡ units_there (reader d) q w =
        ap (λ (y : Bool). if y then units_there (reader d) q w else 0) on in
        let far = call_far (reader d) q w within on in
        let one : came d.nfa.automaton.reverse q (call_offset (reader d) q w) + suc k ≡ suc
        (came d.nfa.automaton.reverse q (call_offset (reader d) q w) + k) = omega arith in
        let there = sym (place_came d.nfa.automaton.reverse q (call_offset (reader d) q w) (call_within (reader d) q w within on)) in
        inr (
          e,
          (
            came d.nfa.automaton.reverse q (call_offset (reader d) q w) + k,
            omega (arith, lt, all, far),
            from ∙ ap Some (state_there (reader d) q.haystack (begins_at (reader d) q) (call_offset (reader d) q w)
                (came d.nfa.automaton.reverse q (call_offset (reader d) q w)) there
                (first_value (reader d) q.anchored q.haystack (begins_at (reader d) q)) k),
            is ∙ (state_there (reader d) q.haystack (begins_at (reader d) q) (call_offset (reader d) q w)
                (came d.nfa.automaton.reverse q (call_offset (reader d) q w)) there
                (first_value (reader d) q.anchored q.haystack (begins_at (reader d) q)) (suc k)
                ∙ ap (state_after (reader d) q.haystack (begins_at (reader d) q) (first_value (reader d) q.anchored q.haystack
                (begins_at (reader d) q))) one),
          ),
        )
