use Rattle.std.proofs.Common.{◌≡◌, ◌-◌, length}
use Rattle.grep_core.specs.ContextPrinting.{Waits}
use Rattle.text_report.specs.Records.{ReportsRecords}
use Rattle.text_report.proofs.records.report_some.Given as goal

abbrev pub invariant-loop-at : goal.invariant-loop-at
invariant-loop-at l = record {
  same : l.finder ≡ l.fn.finder;
  waits : Waits l.task.what.now l.progress.telling.course;
  reports : ReportsRecords l.task l.fn.finder l.fn.progress l.progress l.fn.out.items l.out.items l.text l.start l.at;
}

abbrev pub decreases-loop-at : goal.decreases-loop-at
decreases-loop-at l = length l.text - l.at
