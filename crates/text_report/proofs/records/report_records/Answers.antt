use Rattle.grep_core.specs.Reporting.{with_needed_spans}
use Rattle.grep_core.specs.declared.progress.Progress.{Progress}
use Rattle.grep_core.specs.declared.progress.Task.{Task}
use Rattle.line_search.specs.Searchers.{found_by}
use Rattle.text_report.specs.Records.{records_of}
use Rattle.text_report.proofs.RecordLemmas.{text_begun, text_counted, text_reported}
use Rattle.text_report.proofs.records.report_records.Goals as goal

pub write_all-requires : goal.write_all-requires
write_all-requires g c = record { waits = c.new.ensures.waits c.args.what.now }

pub returns-in-Ok-clause-reported : goal.returns-in-Ok-clause-reported
returns-in-Ok-clause-reported g c by =
    let t : Task = record { what = c.args.what; name = c.args.name; with_name = c.args.with_name } in
    let p : Progress = record { number = 1; place = 0; telling = c.new.result } in
    text_reported t (found_by by) c.args.known p c.args.text.now (g.W.Write.contents c.args.writer.now)
    (g.W.Write.contents c.write_all.new.writer)
    (c.new.ensures.starts c.args.what.now c.first_of.ensures (with_needed_spans c.args.what.now (found_by by)) c.args.name.now
    c.args.with_name (records_of c.args.what.now c.args.text.now))
    (c.in-Ok.ensures.written by)

pub returns-in-Ok-clause-selected : goal.returns-in-Ok-clause-selected
returns-in-Ok-clause-selected g c by =
    let t : Task = record { what = c.args.what; name = c.args.name; with_name = c.args.with_name } in
    let p : Progress = record { number = 1; place = 0; telling = c.new.result } in
    text_counted t (found_by by) c.args.known p c.args.text.now c.count_of.result _
    (c.new.ensures.counts c.args.what.now (with_needed_spans c.args.what.now (found_by by)) (records_of c.args.what.now c.args.text.now))
    (c.count_of.ensures t (with_needed_spans c.args.what.now (found_by by))) (c.in-Ok.ensures.counts by)

pub returns-clause-fault : goal.returns-clause-fault
returns-clause-fault g c by =
    let t : Task = record { what = c.args.what; name = c.args.name; with_name = c.args.with_name } in
    let p : Progress = record { number = 1; place = 0; telling = c.new.result } in
    text_begun t (found_by by) c.args.known p c.args.text.now (g.W.Write.contents c.args.writer.now)
    (g.W.Write.contents c.write_all.new.writer)
    (c.new.ensures.starts c.args.what.now c.first_of.ensures (with_needed_spans c.args.what.now (found_by by)) c.args.name.now
    c.args.with_name (records_of c.args.what.now c.args.text.now))
    (c.in-Err.ensures.fault by)
