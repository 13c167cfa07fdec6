use Rattle.std.proofs.Common.{◌∙◌, ◌==◌, ap}
use Rattle.std.specs.List.{position}
use Rattle.grep_core.specs.declared.progress.Task.{Task}
use Rattle.line_search.specs.Searchers.{found_by}
use Rattle.grep_core.specs.Reporting.{with_needed_spans}
use Rattle.grep_core.proofs.SeenLemmas.{moved_by}
use Rattle.grep_core.proofs.TextLemmas.{text_part, text_written, rest_part, text_counted}
use Rattle.grep_core.proofs.WriteLemmas.{some_of, at_end}
use Rattle.grep_core.proofs.reading.report_input.Goals as goal

pub report_blocks-requires-clause-waits : goal.report_blocks-requires-clause-waits
report_blocks-requires-clause-waits g c = c.new-progress.ensures.waits c.args.what.now

pub report_blocks-requires-clause-open : goal.report_blocks-requires-clause-open
report_blocks-requires-clause-open g c = ap (position (λ b. b == 10)) c.over-read.ensures

pub finish-requires-clause-open : goal.finish-requires-clause-open
finish-requires-clause-open g c = ap (position (λ b. b == 10)) c.bytes.ensures ∙ c.in-Ok.ensures.open

pub returns-in-Err-clause-fault : goal.returns-in-Err-clause-fault
returns-in-Err-clause-fault g c by =
    let t : Task = record { what = c.args.what; name = c.args.name; with_name = c.args.with_name } in
    some_of (g.R.Read.remaining c.args.reader.now) _
    (λ text is. text_part t (found_by by) c.args.known c.new-progress.result c.over-read.result text (g.W.Write.contents c.args.writer.now)
    (g.W.Write.contents c.report_blocks.new.writer)
    c.over-read.ensures (c.new-progress.ensures.starts t c.first_of.ensures (with_needed_spans c.args.what.now (found_by by)))
    (c.in-Err.ensures.fault (moved_by c.take_room-room.ensures by) text is))

pub returns-in-Ok-finish-clause-reported : goal.returns-in-Ok-finish-clause-reported
returns-in-Ok-finish-clause-reported g c by =
    let t : Task = record { what = c.args.what; name = c.args.name; with_name = c.args.with_name } in
    some_of (g.R.Read.remaining c.args.reader.now) _
    (λ text is. let a = c.in-Ok.ensures.reads (moved_by c.take_room-room.ensures by) text is in
    text_written t (found_by by) c.args.known c.new-progress.result c.report_blocks.new.progress c.over-read.result c.report_blocks.new.read
    c.bytes.result.now text
    (g.R.Read.remaining c.report_blocks.new.reader) (g.W.Write.contents c.args.writer.now) (g.W.Write.contents c.report_blocks.new.writer)
    (g.W.Write.contents c.finish.new.writer)
    c.over-read.ensures c.bytes.ensures (c.new-progress.ensures.starts t c.first_of.ensures (with_needed_spans c.args.what.now (found_by by))) a
    (c.in-Ok-finish.ensures.written (moved_by (c.in-Ok.ensures.keeps.same ∙ c.take_room-room.ensures) by) a.rest
    (λ ended. at_end (g.R.Read.remaining c.report_blocks.new.reader) a.rest a.is_left (c.in-Ok.ensures.end ended))))

pub returns-in-Ok-finish-clause-selected : goal.returns-in-Ok-finish-clause-selected
returns-in-Ok-finish-clause-selected g c by =
    let t : Task = record { what = c.args.what; name = c.args.name; with_name = c.args.with_name } in
    some_of (g.R.Read.remaining c.args.reader.now) _
    (λ text is. let a = c.in-Ok.ensures.reads (moved_by c.take_room-room.ensures by) text is in
    text_counted t (found_by by) c.new-progress.result c.report_blocks.new.progress c.over-read.result c.report_blocks.new.read
    c.bytes.result.now text
    (g.R.Read.remaining c.report_blocks.new.reader) (g.W.Write.contents c.args.writer.now)
    (g.W.Write.contents c.report_blocks.new.writer) c.count_of.result _
    c.over-read.ensures c.bytes.ensures (c.new-progress.ensures.counts t (with_needed_spans c.args.what.now (found_by by))) a
    (c.count_of.ensures t (with_needed_spans c.args.what.now (found_by by)))
    (c.in-Ok-finish.ensures.counts (moved_by (c.in-Ok.ensures.keeps.same ∙ c.take_room-room.ensures) by) a.rest
    (λ ended. at_end (g.R.Read.remaining c.report_blocks.new.reader) a.rest a.is_left (c.in-Ok.ensures.end ended))))

pub returns-clause-fault : goal.returns-clause-fault
returns-clause-fault g c by =
    let t : Task = record { what = c.args.what; name = c.args.name; with_name = c.args.with_name } in
    some_of (g.R.Read.remaining c.args.reader.now) _
    (λ text is. let a = c.in-Ok.ensures.reads (moved_by c.take_room-room.ensures by) text is in
    rest_part t (found_by by) c.args.known c.new-progress.result c.report_blocks.new.progress c.over-read.result c.report_blocks.new.read
    c.bytes.result.now text
    (g.R.Read.remaining c.report_blocks.new.reader) (g.W.Write.contents c.args.writer.now) (g.W.Write.contents c.report_blocks.new.writer)
    (g.W.Write.contents c.finish.new.writer)
    c.over-read.ensures c.bytes.ensures (c.new-progress.ensures.starts t c.first_of.ensures (with_needed_spans c.args.what.now (found_by by))) a
    (c.in-Err-finish.ensures.fault (moved_by (c.in-Ok.ensures.keeps.same ∙ c.take_room-room.ensures) by) a.rest
    (λ ended. at_end (g.R.Read.remaining c.report_blocks.new.reader) a.rest a.is_left (c.in-Ok.ensures.end ended))))
