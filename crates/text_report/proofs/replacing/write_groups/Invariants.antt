use Rattle.std.proofs.Common.{◌-◌, ◌≤◌, length, map}
use Rattle.line_search.specs.LineMatchers.{span_pair}
use Rattle.grep_core.specs.ContextPrinting.{Waits}
use Rattle.text_report.specs.EventCourse.{KnowsNext}
use Rattle.text_report.specs.ReplacedProgress.{AreBegun, WritesNew}
use Rattle.text_report.specs.Touching.{StartInOrder}
use Rattle.text_report.proofs.replacing.write_groups.Given as goal

abbrev pub invariant-loop-progress : goal.invariant-loop-progress
invariant-loop-progress g l = record {
  waits : Waits l.task.task.what.now l.progress.telling.course;
  within : l.progress.at ≤ length l.task.task.text.now;
  known : KnowsNext l.task.flags.now l.progress.turn;
  begun : AreBegun l.task.task.found.now l.progress.first l.progress.at;
  printed : StartInOrder (map span_pair l.task.spans.now) →
      WritesNew l.task (g.W.Write.contents l.fn.writer) (g.W.Write.contents l.writer) l.out.items l.fn.progress l.progress;
}

abbrev pub decreases-loop-progress : goal.decreases-loop-progress
decreases-loop-progress g l = length l.task.task.text.now - l.progress.at
