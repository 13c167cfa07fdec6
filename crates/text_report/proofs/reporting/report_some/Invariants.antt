use Rattle.std.proofs.Common.{◌≤◌, length}
use Rattle.grep_core.specs.ContextPrinting.{Waits}
use Rattle.text_report.specs.TextProgress.{ReportsLines, matches_of_task}
use Rattle.text_report.specs.Touching.{AreBefore, StartInOrder}
use Rattle.text_report.proofs.reporting.report_some.Given as goal

abbrev pub invariant-loop-lines : goal.invariant-loop-lines
invariant-loop-lines l = record {
  waits : Waits l.task.what.now l.progress.telling.course;
  within : l.progress.at.place ≤ length l.task.text.now;
  reports : StartInOrder (matches_of_task l.task) → AreBefore l.task.found.now l.initial.progress.at.first l.initial.progress.at.place →
      ReportsLines l.task l.initial.progress l.progress l.initial.out.items l.out.items;
}
