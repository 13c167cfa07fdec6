use Rattle.std.proofs.Common.{◌∙◌}
use Rattle.grep_core.specs.Blocks.{finds_by}
use Rattle.text_report.specs.Records.{records_left}
use Rattle.text_report.proofs.RecordLemmas.{all_begun, all_counted, all_sent, end_begun}
use Rattle.text_report.proofs.records.write_all.Goals as goal

pub returns-in-Ok-flush-clause-written : goal.returns-in-Ok-flush-clause-written
returns-in-Ok-flush-clause-written g c by =
    all_sent c.args.task (finds_by c.args.task by) c.write_records.new.progress c.args.text.now c.in-Ok.field-0 c.in-Ok.ensures.over
    c.args.progress.now (records_left c.args.task c.args.text.now 0) (g.W.Write.contents c.args.writer.now)
    (g.W.Write.contents c.write_records.new.writer) (c.in-Ok.ensures.writes by)
    (g.W.Write.contents c.write_end.new.writer) (g.W.Write.contents c.flush.new.writer)
    (c.in-Ok-write_end.ensures.written (finds_by c.args.task by)) c.flush.ensures

pub returns-in-Ok-flush-clause-counts : goal.returns-in-Ok-flush-clause-counts
returns-in-Ok-flush-clause-counts g c by =
    all_counted c.args.task (finds_by c.args.task by) c.write_records.new.progress c.args.text.now c.in-Ok.field-0 c.in-Ok.ensures.over
    c.args.progress.now (records_left c.args.task c.args.text.now 0) (g.W.Write.contents c.args.writer.now)
    (g.W.Write.contents c.write_records.new.writer) (c.in-Ok.ensures.writes by)

pub returns-in-Err-flush-clause-fault : goal.returns-in-Err-flush-clause-fault
returns-in-Err-flush-clause-fault g c by =
    all_begun c.args.task (finds_by c.args.task by) c.write_records.new.progress c.args.text.now c.in-Ok.field-0 c.in-Ok.ensures.over
    c.args.progress.now (records_left c.args.task c.args.text.now 0) (g.W.Write.contents c.args.writer.now)
    (g.W.Write.contents c.write_records.new.writer) (c.in-Ok.ensures.writes by)
    (g.W.Write.contents c.write_end.new.writer) (g.W.Write.contents c.flush.new.writer)
    (c.in-Ok-write_end.ensures.written (finds_by c.args.task by)) c.flush.ensures

pub returns-in-Err-write_end-clause-fault : goal.returns-in-Err-write_end-clause-fault
returns-in-Err-write_end-clause-fault g c by =
    end_begun c.args.task (finds_by c.args.task by) c.write_records.new.progress c.args.text.now c.in-Ok.field-0 c.in-Ok.ensures.over
    c.args.progress.now (records_left c.args.task c.args.text.now 0) (g.W.Write.contents c.args.writer.now)
    (g.W.Write.contents c.write_records.new.writer) (c.in-Ok.ensures.writes by)
    (g.W.Write.contents c.write_end.new.writer) (c.in-Err-write_end.ensures.fault (finds_by c.args.task by))
