use Rattle.std.proofs.Common.{◌≤◌, length}
use Rattle.grep_core.specs.ContextPrinting.{Waits}
use Rattle.text_report.specs.TextProgress.{WritesTextLines, matches_of_task}
use Rattle.text_report.specs.Touching.{AreBefore, StartInOrder}
use Rattle.text_report.proofs.reporting.write_lines.Given as goal

abbrev pub invariant-loop-parts : goal.invariant-loop-parts
invariant-loop-parts g l = record {
  waits : Waits l.task.what.now l.progress.telling.course;
  within : l.progress.at.place ≤ length l.task.text.now;
  writes : StartInOrder (matches_of_task l.task) → AreBefore l.task.found.now l.initial.progress.at.first l.initial.progress.at.place →
      WritesTextLines l.task l.initial.progress l.progress (g.W.Write.contents l.initial.writer) (g.W.Write.contents l.writer);
}
