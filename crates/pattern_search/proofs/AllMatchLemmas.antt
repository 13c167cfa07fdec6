-- All answers are all matches that the matcher's iteration gives.
use Rattle.std.proofs.Common.{◌≡◌, ℕ, zero, suc, ◌+◌, ◌-◌, ◌≤◌, ◌&&◌, ◌==◌, nat_eq, Bool, true, false, List, [], ◌∷◌, map, take, length}
use Rattle.std.proofs.Common.{All, Option, Some, None, option_map, if◌then◌else◌, refl, sym, ap, ap₂, ◌∙◌, subst, arith, eq-eqb, eqb-true}
use Rattle.std.proofs.lemmas.List.{take_all}
use Rattle.std.proofs.lemmas.Option.{same_Some}
use Rattle.std.proofs.lemmas.List.Elements.{All-head, All-tail}
use Rattle.regex_hir.specs.Re.{Re}
use Rattle.regex_hir.specs.Meaning.{alt_all}
use Rattle.regex_hir.specs.Text.{is_some_and}
use Rattle.regex_hir.specs.Find.{Match, find_after, matches_from}
use Rattle.search_types.specs.Found.{Found}
use Rattle.search_types.specs.AllAnswers.{is_repeat, and_on, next_answer, answers_from, all_answers, AnswersWithin, EndsRise}
use Rattle.search_types.proofs.ForCallers.{starts_at, ends_rise, spans_within, no_answer_is_cut_off}
use Rattle.hir_core.specs.Tree.{Tree}
use Rattle.hir_core.specs.Facts.{LoopsRead}
use Rattle.hir_core.proofs.ForCallers.{span_forward}
use Rattle.hir_regex.specs.Choices.{Query, answer_from, answers_of}
use Rattle.hir_regex.specs.LooseAnswers.{IsLooseAnswer}
use Rattle.hir_regex.specs.Regexes.{IsSearchOf}
use Rattle.pattern_text.specs.SameEnds.{AreSameEnds}
use Rattle.pattern_search.specs.Searches.{whole_search, whole_query, found_from, all_found, span_of_match, span_of_found, ListsAsRead}
use Rattle.pattern_search.proofs.ChoiceLemmas.{answer_is_loose}
use Rattle.pattern_search.proofs.FindLemmas.{finds_as_read}

-- ---- one list compared with the other, over any functions that find the same spans
record SameSearch (search : ℕ → Option Match) (answer : ℕ → Option Found) (e : ℕ) : Type 0 where
  same : (s : ℕ) → option_map span_of_match (search s) ≡ option_map span_of_found (answer s)
  ok : AnswersWithin answer e

ends_of : (m : Match) (f : Found) → span_of_match m ≡ span_of_found f → m.trace.end ≡ f.end
ends_of m f same = ap (λ (s : ℕ × ℕ). s.1) same

same_span : (m : Match) (f : Found) → Some (span_of_match m) ≡ Some (span_of_found f) → span_of_match m ≡ span_of_found f
same_span m f same = same_Some (span_of_match m) (span_of_found f) same

-- an end at the offset is one of an empty span
empty_there : (f : Found) (at : ℕ) → at ≤ f.start → f.start ≤ f.end → (b : Bool) → nat_eq f.end at ≡ b → b ≡ nat_eq f.start f.end && b
empty_there f at low forward false is = by_test (nat_eq f.start f.end)
  where
    by_test : (b : Bool) → false ≡ b && false
    by_test false = refl
    by_test true = refl
empty_there f at low forward true is =
    let same : f.end ≡ at = eqb-true f.end at is in
    sym (ap (λ b. b && true) (eq-eqb f.start f.end (omega arith)))

module _ (search : ℕ → Option Match) (answer : ℕ → Option Found) (e : ℕ) (both : SameSearch search answer e) where
  same_test : (at : ℕ) (o : Option Match) (p : Option Found) → answer at ≡ p → option_map span_of_match o ≡ option_map span_of_found p →
      is_some_and o (λ m. m.trace.end == at) ≡ is_repeat (Some at) p
  same_test at None None is same = refl
  same_test at None (Some f) is same = cc
  same_test at (Some m) None is same = cc
  same_test at (Some m) (Some f) is same =
      ap (λ k. k == at) (ends_of m f (same_span m f same))
      ∙ empty_there f at (both.ok.starts at f is) (both.ok.ends at f is) (nat_eq f.end at) refl

  if_same : (b : Bool) (o p : Option Match) (q r : Option Found) → option_map span_of_match o ≡ option_map span_of_found q →
      option_map span_of_match p ≡ option_map span_of_found r →
      option_map span_of_match (if b then o else p) ≡ option_map span_of_found (if b then q else r)
  if_same true o p q r first second = first
  if_same false o p q r first second = second

  same_next : (at : ℕ) → option_map span_of_match (find_after search at) ≡ option_map span_of_found (next_answer answer (Some at) at)
  same_next at =
      ap (λ b. option_map span_of_match (if b then search (at + 1) else search at))
      (same_test at (search at) (answer at) refl (both.same at))
      ∙ if_same (is_repeat (Some at) (answer at)) (search (at + 1)) (search at) (answer (at + 1)) (answer at)
      (both.same (at + 1)) (both.same at)

  and_so_on : (n : ℕ) → ((at : ℕ) → map span_of_match (matches_from search n (find_after search at)) ≡
      map span_of_found (answers_from answer n (Some at) at)) →
      (o : Option Match) (p : Option Found) → option_map span_of_match o ≡ option_map span_of_found p →
      map span_of_match (matches_from search (suc n) o) ≡ map span_of_found (and_on p (λ f. answers_from answer n (Some f.end) f.end))
  unfolding matches_from
  and_so_on n rest None None same = refl
  and_so_on n rest None (Some f) same = cc
  and_so_on n rest (Some m) None same = cc
  and_so_on n rest (Some m) (Some f) same =
      let span = same_span m f same in
      ap₂ (λ s ss. s ∷ ss) span
      (ap (λ k. map span_of_match (matches_from search n (find_after search k))) (ends_of m f span) ∙ rest f.end)

  same_after : (n at : ℕ) → map span_of_match (matches_from search n (find_after search at)) ≡
      map span_of_found (answers_from answer n (Some at) at)
  unfolding matches_from
  same_after zero at = refl
  same_after (suc n) at =
      and_so_on n (λ k. same_after n k) (find_after search at) (next_answer answer (Some at) at) (same_next at)

  same_list : (n s : ℕ) → map span_of_match (matches_from search n (search s)) ≡ map span_of_found (answers_from answer n None s)
  unfolding matches_from
  same_list zero s = refl
  same_list (suc n) s = and_so_on n (λ k. same_after n k) (search s) (answer s) (both.same s)

-- ---- no more answers than offsets
rises_within : (e last : ℕ) (fs : List Found) → EndsRise (Some last) fs → All (λ f. f.end ≤ e) fs → length fs ≤ e - last
rises_within e last [] rise all = omega arith
rises_within e last (f ∷ fs) rise all =
    let high = All-head (λ g. g.end ≤ e) f fs all in
    omega (arith, rise.0, high, rises_within e f.end fs rise.1 (All-tail (λ g. g.end ≤ e) f fs all))

rises_first : (e s : ℕ) (fs : List Found) → EndsRise None fs → All (λ f. (s ≤ f.start) × (f.start ≤ f.end) × (f.end ≤ e)) fs →
    length fs ≤ e + 1 - s
rises_first e s [] rise all = omega arith
rises_first e s (f ∷ fs) rise all =
    let here = All-head (λ (g : Found). (s ≤ g.start) × (g.start ≤ g.end) × (g.end ≤ e)) f fs all in
    let rest = All-tail (λ (g : Found). (s ≤ g.start) × (g.start ≤ g.end) × (g.end ≤ e)) f fs all in
    omega (arith, here.0, here.1, here.2, rises_within e f.end fs rise (λ k d below. (rest k d below).2))

-- a lower bound on their number takes the first of them
first_answers : (answer : ℕ → Option Found) (n : ℕ) (last : Option ℕ) (at : ℕ) →
    take n (answers_from answer (suc n) last at) ≡ answers_from answer n last at
first_answers answer zero last at = refl
first_answers answer (suc n) last at = by_next (next_answer answer last at) (λ l k. first_answers answer n l k)
  where
    by_next : (o : Option Found) → ((l : Option ℕ) (k : ℕ) → take n (answers_from answer (suc n) l k) ≡ answers_from answer n l k) →
        take (suc n) (and_on o (λ f. answers_from answer (suc n) (Some f.end) f.end)) ≡
        and_on o (λ f. answers_from answer n (Some f.end) f.end)
    by_next None rest = refl
    by_next (Some f) rest = ap (λ fs. f ∷ fs) (rest (Some f.end) f.end)

few_are_all : (answer : ℕ → Option Found) (e : ℕ) → AnswersWithin answer e → (s n : ℕ) → e + 1 - s ≤ n →
    answers_from answer n None s ≡ all_answers answer s e
few_are_all answer e ok s n enough =
    let more : answers_from answer (suc n) None s ≡ all_answers answer s e = no_answer_is_cut_off answer e ok s (suc n) (omega arith) in
    sym (first_answers answer n None s) ∙ ap (take n) more
    ∙ take_all n (all_answers answer s e) (omega (
      arith,
      rises_first e s (all_answers answer s e) (ends_rise answer e ok s) (spans_within answer e ok s),
    ))

-- ---- answers of trees
starts_late : (q : Query) (s : ℕ) (f : Found) → IsLooseAnswer q s (Some f) → s ≤ f.start
starts_late q s f loose = (starts_at q.mode s q.end f.start loose.starts).from_s

pub within_of : (q : Query) → AnswersWithin (answer_from q) q.end
within_of q = record {
  starts = λ s f is. starts_late q s f (subst (IsLooseAnswer q s) is (answer_is_loose q s));
  ends = λ s f is. let span = (subst (IsLooseAnswer q s) is (answer_is_loose q s)).counted.findable.span in
      span_forward q.looks q.haystack span.tree f.start f.end span.means;
  within = λ s f is. (subst (IsLooseAnswer q s) is (answer_is_loose q s)).counted.findable.within;
}

-- where a search starts isn't among what it asks of trees and haystack
from_any : (xs : List Tree) (utf8 : Bool) (h : List ℕ) (s t : ℕ) → IsSearchOf xs utf8 (whole_search h s) →
    IsSearchOf xs utf8 (whole_search h t)
from_any xs utf8 h s t q =
    record { within = q.within; whole = q.whole; bytes = q.bytes; valid = q.valid; utf8_trees = q.utf8_trees }

pub lists_from : (res : List Re) (xs : List Tree) → AreSameEnds res xs → All LoopsRead xs → (utf8 : Bool) (h : List ℕ) (s n : ℕ) →
    IsSearchOf xs utf8 (whole_search h s) → length h + 1 - s ≤ n →
    map span_of_match (matches_from (found_from utf8 (alt_all res) h) n (found_from utf8 (alt_all res) h s))
    ≡ map span_of_found (answers_of (whole_query utf8 xs h) s)
lists_from res xs same loops utf8 h s n search enough =
    let within = within_of (whole_query utf8 xs h) in
    same_list (found_from utf8 (alt_all res) h) (answer_from (whole_query utf8 xs h)) (length h)
    (record { same = λ t. finds_as_read res xs same loops utf8 h t (from_any xs utf8 h s t search); ok = within }) n s
    ∙ ap (map span_of_found) (few_are_all (answer_from (whole_query utf8 xs h)) (length h) within s n enough)

pub all_from_start : (utf8 : Bool) (re : Re) (h : List ℕ) →
    all_found utf8 re h ≡ matches_from (found_from utf8 re h) (length h + 1) (found_from utf8 re h 0)
all_from_start false re h = refl
all_from_start true re h = refl

pub lists_as_read : (res : List Re) (xs : List Tree) → AreSameEnds res xs → All LoopsRead xs → (utf8 : Bool) → ListsAsRead utf8 res xs
lists_as_read res xs same loops utf8 = record {
  from = lists_from res xs same loops utf8;
  whole = λ h search. ap (map span_of_match) (all_from_start utf8 (alt_all res) h)
      ∙ lists_from res xs same loops utf8 h 0 (length h + 1) search (omega arith);
}
