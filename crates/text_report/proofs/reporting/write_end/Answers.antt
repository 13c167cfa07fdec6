use Rattle.std.proofs.Common.{[]}
use Rattle.text_report.specs.TextProgress.{reported_left}
use Rattle.text_report.proofs.ReportLemmas.{any_matcher, last_part, last_whole, last_written}
use Rattle.text_report.proofs.reporting.write_end.Goals as goal

pub returns-in-Err-write_out-clause-fault : goal.returns-in-Err-write_out-clause-fault
returns-in-Err-write_out-clause-fault g c =
    last_part c.new-out.result.items c.report_end.new.out.items c.deref.result.now (reported_left c.args.task c.args.telling.now [])
    (g.W.Write.contents c.args.writer.now) (g.W.Write.contents c.write_out.new.writer) c.new-out.ensures.items (c.in-Ok.ensures any_matcher)
    c.deref.ensures.value c.in-Err-write_out.ensures.part

pub returns-in-Ok-flush-clause-written : goal.returns-in-Ok-flush-clause-written
returns-in-Ok-flush-clause-written g c =
    last_written c.new-out.result.items c.report_end.new.out.items c.deref.result.now (reported_left c.args.task c.args.telling.now [])
    (g.W.Write.contents c.args.writer.now) (g.W.Write.contents c.write_out.new.writer) c.new-out.ensures.items (c.in-Ok.ensures any_matcher)
    c.deref.ensures.value (g.W.Write.contents c.flush.new.writer) c.in-Ok-write_out.ensures.ok c.flush.ensures

pub returns-clause-fault : goal.returns-clause-fault
returns-clause-fault g c =
    last_whole c.new-out.result.items c.report_end.new.out.items c.deref.result.now (reported_left c.args.task c.args.telling.now [])
    (g.W.Write.contents c.args.writer.now) (g.W.Write.contents c.write_out.new.writer) c.new-out.ensures.items (c.in-Ok.ensures any_matcher)
    c.deref.ensures.value (g.W.Write.contents c.flush.new.writer) c.in-Ok-write_out.ensures.ok c.flush.ensures
