use Rattle.text_report.proofs.ReportLemmas.{reports_none}
use Rattle.text_report.proofs.reporting.report_some.Goals as goal

pub loop-lines-init : goal.loop-lines-init
loop-lines-init c = record {
  waits = c.requires.waits;
  within = c.requires.within;
  reports = λ order before. reports_none c.args.task c.args.progress.now c.args.out.now.items before;
}
