use Rattle.grep_core.specs.Blocks.{finds_by}
use Rattle.text_report.specs.Records.{records_left}
use Rattle.text_report.proofs.RecordLemmas.{none_begun, some_begun, some_sent}
use Rattle.text_report.proofs.records.write_some.Goals as goal

pub returns-in-Ok-write_out-clause-writes : goal.returns-in-Ok-write_out-clause-writes
returns-in-Ok-write_out-clause-writes g c by =
    some_sent c.args.task (finds_by c.args.task by) c.args.progress.now c.report_some.new.progress
    (records_left c.args.task c.args.text.now c.args.start) (records_left c.args.task c.args.text.now c.in-Ok.next)
    c.new-out.result.items c.deref.result.now c.report_some.new.out.items
    (g.W.Write.contents c.args.writer.now) (g.W.Write.contents c.write_out.new.writer) c.new-out.ensures.items c.deref.ensures.value
    (c.in-Ok.ensures.reports.goes_on by) (c.in-Ok.ensures.reports.counts by) c.in-Ok-write_out.ensures.ok

pub returns-in-Err-clause-fault : goal.returns-in-Err-clause-fault
returns-in-Err-clause-fault g c by = none_begun c.args.task (finds_by c.args.task by) c.args.progress.now
    (records_left c.args.task c.args.text.now c.args.start) (g.W.Write.contents c.args.writer.now)

pub returns-clause-fault : goal.returns-clause-fault
returns-clause-fault g c by =
    some_begun c.args.task (finds_by c.args.task by) c.args.progress.now c.report_some.new.progress
    (records_left c.args.task c.args.text.now c.args.start) (records_left c.args.task c.args.text.now c.in-Ok.next)
    c.new-out.result.items c.deref.result.now c.report_some.new.out.items
    (g.W.Write.contents c.args.writer.now) (g.W.Write.contents c.write_out.new.writer) c.new-out.ensures.items c.deref.ensures.value
    (c.in-Ok.ensures.reports.goes_on by) c.in-Err-write_out.ensures.part
