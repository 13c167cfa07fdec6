use Rattle.text_report.proofs.ReportLemmas.{part_out}
use Rattle.text_report.proofs.reporting.write_some.Goals as goal

pub returns-clause-fault : goal.returns-clause-fault
returns-clause-fault g c order before =
    part_out c.args.task c.args.progress.now c.report_some.new.progress c.new-out.result.items c.report_some.new.out.items c.deref.result.now
    (g.W.Write.contents c.args.writer.now) (g.W.Write.contents c.write_out.new.writer) c.new-out.ensures.items c.deref.ensures.value
    (c.in-Ok.ensures.goes_on order before) c.in-Err-write_out.ensures.part
