-- Where a part of a text is after its matches were replaced.
use Rattle.std.proofs.Common.{◌≡◌, ◌≤◌, ◌<◌, ℕ, zero, suc, ◌+◌, ◌-◌, Bool, true, false, not, cond, nat_le, nat_lt, List, [], ◌∷◌, drop, length, map, take}
use Rattle.std.proofs.Common.{Option, Some, None, refl, sym, ap, ap₂, ◌∙◌, subst, arith, slice_range, if◌then◌else◌}
use Rattle.std.proofs.lemmas.Bool.{ltb-false}
use Rattle.std.proofs.lemmas.List.{drop-map, take-map}
use Rattle.std.proofs.lemmas.Option.{none-some, same_Some, slice_get-map}
use Rattle.std.specs.List.{position, position_or_len, slice_get}
use Rattle.std.specs.Prelude.{option_map}
use Rattle.regex_hir.specs.Find.{Match}
use Rattle.search_types.specs.declared.span.Span.{Span}
use Rattle.line_search.specs.LineMatchers.{span_pair}
use Rattle.line_search.specs.Replacing.{written_spans}
use Rattle.text_report.specs.EventCourse.{IsGroup, group_of}
use Rattle.text_report.specs.ReplacedProgress.{AreBegun}
use Rattle.text_report.specs.ReplacedText.{begun_before, end_of_first, end_of_span, past_lines, replaced_offset, spans_of}
use Rattle.text_report.specs.TextProgress.{matches_of_task}
use Rattle.text_report.specs.Touching.{NoneStartsBefore, StartInOrder}
use Rattle.text_report.specs.declared.event_lines.Group.{Group}
use Rattle.text_report.specs.declared.replacing.NewTask.{NewTask}
use Rattle.text_report.proofs.SeenLemmas.{ends_there}
use Rattle.text_report.proofs.TouchingLemmas.{ordered_from, weaker}

some_at : (b : Bool) (k n : ℕ) → cond b (Some k) None ≡ Some n → k ≡ n
some_at true k n e = same_Some k n e
some_at false k n e = absurd (none-some n e)

none_at : (b : Bool) (k : ℕ) → cond b (Some k) None ≡ None → b ≡ false
none_at true k e = absurd (none-some k (sym e))
none_at false k e = refl

le_false : (a b : ℕ) → b < a → nat_le a b ≡ false
le_false a b less = grind (arith, less)

not_le : (a b : ℕ) → nat_le a b ≡ false → b < a
not_le a b e = grind (arith, e)

-- ---- how many matches begin before an offset
module _ (at : ℕ) where
  abbrev is_after : Span → Bool
  is_after s = nat_le at s.start

  abbrev begun : List Span → ℕ
  begun found = begun_before (map span_pair found) at

  one_is : (s : Span) (found : List Span) (v : Bool) → is_after s ≡ v → begun (s ∷ found) ≡ cond (not v) (1 + begun found) 0
  one_is s found v e = ap (λ b. cond (not b) (1 + begun found) 0) e

  same_begun : (found : List Span) → position_or_len is_after found ≡ begun found
  same_begun [] = refl
  same_begun (s ∷ found) = ap (λ n. cond (not (is_after s)) (1 + n) 0) (same_begun found)

  within_one : (s : Span) (found : List Span) → begun found ≤ length found → (v : Bool) → is_after s ≡ v → begun (s ∷ found) ≤ length (s ∷ found)
  within_one s found rest true e = omega (arith, one_is s found true e)
  within_one s found rest false e = omega (arith, rest, one_is s found false e)

  begun_within : (found : List Span) → begun found ≤ length found
  begun_within [] = omega arith
  begun_within (s ∷ found) = within_one s found (begun_within found) (is_after s) refl

  pub begun_found : (found : List Span) (n : ℕ) → position is_after found ≡ Some n → n ≡ begun found
  begun_found found n e =
      sym (some_at (nat_lt (position_or_len is_after found) (length found)) (position_or_len is_after found) n e) ∙ same_begun found

  pub begun_all : (found : List Span) → position is_after found ≡ None → length found ≡ begun found
  begun_all found e =
      let none : nat_lt (position_or_len is_after found) (length found) ≡ false =
      none_at (nat_lt (position_or_len is_after found) (length found)) (position_or_len is_after found) e in
      omega (arith, ltb-false (position_or_len is_after found) (length found) none, same_begun found, begun_within found)

-- ---- how many begin before a later one
module _ (at later : ℕ) (low : at ≤ later) where
  abbrev goes_on : List Span → Type 0
  goes_on found = begun at found + begun later (drop (begun at found) found) ≡ begun later found

  on_one : (s : Span) (found : List Span) → goes_on found → (v : Bool) → is_after at s ≡ v → goes_on (s ∷ found)
  on_one s found rest true e =
      let none : begun at (s ∷ found) ≡ 0 = one_is at s found true e in
      ap (λ n. n + begun later (drop n (s ∷ found))) none ∙ (let z : 0 + begun later (s ∷ found) ≡ begun later (s ∷ found) = omega arith in z)
  on_one s found rest false e =
      let one : begun at (s ∷ found) ≡ suc (begun at found) =
      one_is at s found false e ∙ (let z : 1 + begun at found ≡ suc (begun at found) = omega arith in z) in
      let before : s.start < at = not_le at s.start e in
      let two : begun later (s ∷ found) ≡ 1 + begun later found = one_is later s found false (le_false later s.start (omega (arith, before, low))) in
      ap (λ n. n + begun later (drop n (s ∷ found))) one
      ∙ (let z : suc (begun at found) + begun later (drop (begun at found) found) ≡ begun later (s ∷ found) = omega (arith, rest, two) in z)

  begun_on : (found : List Span) → goes_on found
  begun_on [] = refl
  begun_on (s ∷ found) = on_one s found (begun_on found) (is_after at s) refl

pub are_begun : (found : List Span) (n at : ℕ) → n ≡ begun at found → AreBegun found n at
are_begun found n at is = record {
  within = omega (arith, is, begun_within at found);
  counted = λ later low. subst (λ k. k + begun later (drop k found) ≡ begun later found) (sym is) (begun_on at later low found);
}

pub still_begun : (found : List Span) (n at next : ℕ) → at ≤ next → AreBegun found n at → AreBegun found n next
still_begun found n at next low are = record {
  within = are.within;
  counted = λ later far. are.counted later (omega (arith, low, far));
}

pub none_begun : (found : List Span) (at : ℕ) → AreBegun found 0 at
none_begun found at = record {
  within = omega arith;
  counted = λ later low. (let z : 0 + begun later found ≡ begun later found = omega arith in z);
}

-- ---- what replaces matches is in order
none_taken : (low n : ℕ) (found : List Span) → NoneStartsBefore low (map span_pair found) → NoneStartsBefore low (map span_pair (take n found))
none_taken low zero found all = tt
none_taken low (suc n) [] all = tt
none_taken low (suc n) (s ∷ found) all = (all.0, none_taken low n found all.1)

ordered_to : (n : ℕ) (found : List Span) → StartInOrder (map span_pair found) → StartInOrder (map span_pair (take n found))
ordered_to zero found order = tt
ordered_to (suc n) [] order = tt
ordered_to (suc n) (s ∷ found) order = (none_taken s.start n found order.0, ordered_to n found order.1)

pub ordered_between : (spans part : List Span) (first past : ℕ) → part ≡ slice_range spans first past → StartInOrder (map span_pair spans) →
    StartInOrder (map span_pair part)
ordered_between spans part first past is order =
    subst (λ (l : List Span). StartInOrder (map span_pair l)) (sym is)
    (ordered_to (past - first) (drop first spans) (ordered_from first spans order))

pub pairs_between : (spans part : List Span) (first past : ℕ) → part ≡ slice_range spans first past →
    map span_pair part ≡ slice_range (map span_pair spans) first past
pairs_between spans part first past is =
    ap (λ (l : List Span). map span_pair l) is
    ∙ sym (take-map span_pair (past - first) (drop first spans))
    ∙ ap (take (past - first)) (sym (drop-map span_pair first spans))

module _ (written : Match → List ℕ) where
  written_from : (at place : ℕ) (ms : List Match) → NoneStartsBefore place (written_spans written at place ms)
      × StartInOrder (written_spans written at place ms)
  unfolding written_spans
  written_from at place [] = (tt, tt)
  written_from at place (m ∷ ms) =
      let start : ℕ = place + (m.start - at) in
      let end : ℕ = start + length (written m) in
      let rest = written_from m.trace.end end ms in (
        (omega arith, weaker place end (written_spans written m.trace.end end ms) (omega arith) rest.0),
        (weaker start end (written_spans written m.trace.end end ms) (omega arith) rest.0, rest.1),
      )

  pub written_in_order : (ms : List Match) → StartInOrder (written_spans written 0 0 ms)
  written_in_order ms = (written_from 0 0 ms).1

-- ---- where the lines that come of some lines are
pub now_begun : (found : List Span) (old first at start : ℕ) → AreBegun found old at →
    first ≡ old + begun_before (map span_pair (drop old found)) at → start ≡ at → first ≡ begun_before (map span_pair found) start
now_begun found old first at start are is same =
    is ∙ are.counted at (omega arith) ∙ ap (begun_before (map span_pair found)) (sym same)

whole_by : (b : Bool) (e : ℕ) → (if b then e + 1 else e) ≤ e + 1
whole_by true e = omega arith
whole_by false e = omega arith

module _ (t : NewTask) (g : Group) (lies : IsGroup t.task.text.now g) (first last past start end : ℕ)
    (are : AreBegun t.task.found.now first g.first.start) (counted : first ≡ begun_before (matches_of_task t.task) g.first.start)
    (past_is : past ≡ g.last.end + 1) (last_is : last ≡ first + begun_before (map span_pair (drop first t.task.found.now)) past)
    (start_is : start ≡ end_of_first (map span_pair t.spans.now) first + (g.first.start - end_of_first (matches_of_task t.task) first))
    (end_is : end ≡ end_of_first (map span_pair t.spans.now) last + (past - end_of_first (matches_of_task t.task) last)) where
  past_same : past_lines (group_of t.task.text.now g) ≡ past
  past_same = ap (λ n. n + 1) (ends_there t.task.text.now g.last lies.ordered lies.inside) ∙ sym past_is

  last_same : last ≡ begun_before (matches_of_task t.task) (past_lines (group_of t.task.text.now g))
  last_same =
      let low : g.first.start ≤ past = omega (arith, lies.forward, whole_by g.last.is_ended g.last.end, past_is) in
      last_is ∙ are.counted past low ∙ ap (begun_before (matches_of_task t.task)) (sym past_same)

  pub start_same : start ≡ replaced_offset (matches_of_task t.task) (map span_pair t.spans.now) g.first.start
  start_same =
      start_is ∙ ap (λ n. end_of_first (map span_pair t.spans.now) n + (g.first.start - end_of_first (matches_of_task t.task) n)) counted

  pub end_same : end ≡ replaced_offset (matches_of_task t.task) (map span_pair t.spans.now) (past_lines (group_of t.task.text.now g))
  end_same =
      end_is
      ∙ ap₂ (λ n p. end_of_first (map span_pair t.spans.now) n + (p - end_of_first (matches_of_task t.task) n)) last_same (sym past_same)

  pub spans_same : (part : List Span) → part ≡ slice_range t.spans.now first last →
      map span_pair part ≡ spans_of (matches_of_task t.task) (map span_pair t.spans.now) (group_of t.task.text.now g)
  spans_same part is =
      pairs_between t.spans.now part first last is ∙ ap₂ (slice_range (map span_pair t.spans.now)) counted last_same

-- ---- the end of a span
pub end_of_get : (spans : List Span) (n k : ℕ) → n ≡ suc k → (o : Option Span) → slice_get spans k ≡ o →
    end_of_span (option_map span_pair o) ≡ end_of_first (map span_pair spans) n
end_of_get spans n k is o lookup =
    sym (ap (end_of_first (map span_pair spans)) is ∙ ap end_of_span (slice_get-map span_pair spans k ∙ ap (option_map span_pair) lookup))
