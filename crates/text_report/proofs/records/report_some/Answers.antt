use Rattle.std.proofs.Common.{◌∙◌, arith}
use Rattle.text_report.proofs.RecordLemmas.{then_records}
use Rattle.text_report.proofs.records.report_some.Goals as goal

pub loop-at-preserved : goal.loop-at-preserved
loop-at-preserved c = record {
  same = c.in-Ok-report_record.ensures.keeps.same ∙ c.loop-at.invariant.same;
  waits = c.in-Ok-report_record.ensures.keeps.waits;
  reports = then_records c.loop-at.invariant.same c.loop-at.invariant.reports c.in-Ok-report_record.ensures.reports;
}

pub loop-at-smaller : goal.loop-at-smaller
loop-at-smaller c = omega (arith, c.in-Ok-report_record.ensures.reports.on, c.in-Ok-report_record.ensures.reports.within)
