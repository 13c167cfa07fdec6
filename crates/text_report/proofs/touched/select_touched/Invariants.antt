use Rattle.std.proofs.Common.{◌≡◌, ◌++◌, ◌-◌, ◌≤◌, length, map}
use Rattle.line_search.specs.LineMatchers.{span_pair}
use Rattle.text_report.specs.EventCourse.{touched_of}
use Rattle.text_report.specs.LineSpans.{lines_from}
use Rattle.text_report.specs.Touching.{AreBefore, StartInOrder}
use Rattle.text_report.proofs.touched.select_touched.Given as goal

abbrev pub invariant-loop-at : goal.invariant-loop-at
invariant-loop-at l = record {
  inside : l.at.place ≤ length l.text;
  past : AreBefore l.found l.at.first l.at.place;
  kept : StartInOrder (map span_pair l.found) →
      touched_of l.what (map span_pair l.found) 0 (lines_from l.what.terminator l.text 1 0)
      ≡ l.flags.items ++ touched_of l.what (map span_pair l.found) l.count (lines_from l.what.terminator l.text l.at.number l.at.place);
}

abbrev pub decreases-loop-at : goal.decreases-loop-at
decreases-loop-at l = length l.text - l.at.place
