use Rattle.std.proofs.Common.{◌≡◌, ◌++◌, ◌-◌, ◌≤◌, drop, length, true}
use Rattle.line_search.specs.Searchers.{SearchesFor, found_by}
use Rattle.text_report.specs.EventCourse.{flags_of}
use Rattle.text_report.specs.LineSpans.{split_at}
use Rattle.text_report.proofs.selecting.select_lines.Given as goal

abbrev pub invariant-loop-at : goal.invariant-loop-at
invariant-loop-at l = record {
  inside : l.at ≤ length l.text;
  same : l.finder ≡ l.fn.finder;
  kept : (by : SearchesFor l.fn.finder true) →
      flags_of l.what (found_by by) 0 (split_at l.what.terminator l.text)
      ≡ l.flags.items ++ flags_of l.what (found_by by) l.count (split_at l.what.terminator (drop l.at l.text));
}

abbrev pub decreases-loop-at : goal.decreases-loop-at
decreases-loop-at l = length l.text - l.at
