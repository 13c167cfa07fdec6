use Rattle.std.proofs.Common.{◌≡◌, ◌-◌, ◌≤◌, length}
use Rattle.grep_core.specs.Blocks.{SearchesBy, finds_by}
use Rattle.grep_core.specs.ContextPrinting.{Waits}
use Rattle.grep_core.specs.LongLines.{WritesLines}
use Rattle.text_report.specs.Records.{records_left}
use Rattle.text_report.proofs.records.write_records.Given as goal

abbrev pub invariant-loop-at : goal.invariant-loop-at
invariant-loop-at g l = record {
  inside : l.at ≤ length l.text;
  same : l.finder ≡ l.fn.finder;
  waits : Waits l.task.what.now l.progress.telling.course;
  writes : (by : SearchesBy l.task l.fn.finder) →
      WritesLines l.task (finds_by l.task by) l.fn.progress l.progress (records_left l.task l.text 0) (records_left l.task l.text l.at)
      (g.W.Write.contents l.fn.writer) (g.W.Write.contents l.writer);
}

abbrev pub decreases-loop-at : goal.decreases-loop-at
decreases-loop-at g l = length l.text - l.at
