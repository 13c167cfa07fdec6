use Rattle.std.proofs.Common.{◌-◌, length}
use Rattle.grep_core.specs.ContextPrinting.{Waits}
use Rattle.text_report.specs.LineSpans.{lines_from}
use Rattle.text_report.specs.ReplacedProgress.{ReportsNew, new_left}
use Rattle.text_report.specs.TextProgress.{matches_of_task}
use Rattle.text_report.specs.Touching.{AreBefore, StartInOrder}
use Rattle.text_report.proofs.replaced_lines.report_new.Given as goal

abbrev pub invariant-loop-at : goal.invariant-loop-at
invariant-loop-at l = record {
  waits : Waits l.lines.task.what.now l.telling.course;
  past : AreBefore l.lines.task.found.now l.at.first l.at.place;
  reports : StartInOrder (matches_of_task l.lines.task) →
      ReportsNew l.lines (lines_from l.lines.task.what.now.terminator l.lines.task.text.now l.number l.lines.start) (new_left l.lines l.at)
      l.fn.telling l.telling l.fn.out.items l.out.items;
}

abbrev pub decreases-loop-at : goal.decreases-loop-at
decreases-loop-at l = length l.lines.task.text.now - l.at.place
