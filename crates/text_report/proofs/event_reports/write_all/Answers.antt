use Rattle.text_report.proofs.EventReportLemmas.{whole_part}
use Rattle.text_report.proofs.event_reports.write_all.Goals as goal

pub returns-in-Err-flush-clause-part : goal.returns-in-Err-flush-clause-part
returns-in-Err-flush-clause-part g c =
    whole_part (g.W.Write.contents c.args.writer.now) (g.W.Write.contents c.write_out.new.writer) (g.W.Write.contents c.flush.new.writer)
    c.args.out.now c.in-Ok.ensures.ok c.flush.ensures
