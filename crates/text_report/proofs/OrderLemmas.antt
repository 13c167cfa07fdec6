-- The matches of a text start one after the other.
use Rattle.std.proofs.Common.{◌≡◌, ◌≤◌, ℕ, zero, suc, ◌+◌, ◌==◌, Bool, true, false, List, map, length, Option, Some, None, refl, arith, if◌then◌else◌}
use Rattle.regex_hir.specs.Find.{Match, find, find_after, matches_from}
use Rattle.regex_hir.specs.Re.{Re}
use Rattle.regex_hir.specs.Text.{is_some_and}
use Rattle.regex_hir.proofs.FindLemmas.{find_sound}
use Rattle.regex_hir.proofs.MatchesLemmas.{Matches-IsSpan}
use Rattle.pattern_search.specs.Searches.{span_of_match}
use Rattle.line_search.specs.Bounded.{line_pattern}
use Rattle.line_search.specs.Patterns.{spans_in}
use Rattle.line_search.specs.declared.patterns.PatternOptions.{PatternOptions}
use Rattle.text_report.specs.Touching.{StartInOrder, NoneStartsBefore}
use Rattle.text_report.proofs.TouchingLemmas.{weaker}

module _ (re : Re) (hay : List ℕ) where
  abbrev Starts : ℕ → Option Match → Type 0
  Starts low o = (m : Match) → o ≡ Some m → (low ≤ m.start) × (m.start ≤ m.trace.end)

  found_starts : (start : ℕ) → Starts start (find re hay start)
  found_starts start m is =
      let it = find_sound re hay start m is in
      (it.0, (Matches-IsSpan hay re m.start m.trace.end it.1).0)

  next_by : (end : ℕ) (b : Bool) → Starts end (if b then find re hay (end + 1) else find re hay end)
  next_by end true m is = let it = found_starts (end + 1) m is in (omega (arith, it.0), it.1)
  next_by end false m is = found_starts end m is

  abbrev spans : ℕ → Option Match → List (ℕ × ℕ)
  spans n o = map span_of_match (matches_from (find re hay) n o)

  in_order_from : (n low : ℕ) (o : Option Match) → Starts low o → NoneStartsBefore low (spans n o) × StartInOrder (spans n o)
  unfolding matches_from
  in_order_from zero low o starts = (tt, tt)
  in_order_from (suc n) low None starts = (tt, tt)
  in_order_from (suc n) low (Some m) starts =
      let own = starts m refl in
      let rest = in_order_from n m.trace.end (find_after (find re hay) m.trace.end)
      (next_by m.trace.end (is_some_and (find re hay m.trace.end) (λ o. o.trace.end == m.trace.end))) in (
        (own.0, weaker low m.trace.end _ (omega (arith, own.0, own.1)) rest.0),
        (weaker m.start m.trace.end _ own.1 rest.0, rest.1),
      )

pub in_order : (how : PatternOptions) (res : List Re) (text : List ℕ) → StartInOrder (spans_in how res text)
in_order how res text =
    (in_order_from (line_pattern how res) text (length text + 1) 0 (find (line_pattern how res) text 0)
    (found_starts (line_pattern how res) text 0)).1
