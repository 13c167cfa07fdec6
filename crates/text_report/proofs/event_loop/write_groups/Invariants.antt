use Rattle.std.proofs.Common.{◌≡◌, ◌-◌, ◌≤◌, length}
use Rattle.text_report.specs.EventCourse.{ArePast, ArePrinted, KnowsNext}
use Rattle.text_report.proofs.event_loop.write_groups.Given as goal

abbrev pub invariant-loop-progress : goal.invariant-loop-progress
invariant-loop-progress g l = record {
  same : l.finder ≡ l.fn.finder;
  within : l.progress.at ≤ length l.task.text.now;
  known : KnowsNext l.task.flags.now l.progress.turn;
  past : ArePast l.task l.progress.first l.progress.at;
  printed : ArePrinted l.task l.fn.finder (g.W.Write.contents l.fn.writer) (g.W.Write.contents l.writer) l.fn.out.items l.out.items
      l.fn.progress l.progress;
}

abbrev pub decreases-loop-progress : goal.decreases-loop-progress
decreases-loop-progress g l = length l.task.text.now - l.progress.at
