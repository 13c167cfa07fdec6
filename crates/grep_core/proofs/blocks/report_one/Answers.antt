use Rattle.std.proofs.Common.{◌+◌, ◌++◌, ◌∙◌, ap, length, map}
use Rattle.grep_core.specs.Blocks.{finds_by, seen_line}
use Rattle.line_search.specs.Lines.{SplitLine, TextLine, numbered}
use Rattle.line_search.specs.LineMatchers.{span_pair, ShownLine}
use Rattle.grep_core.proofs.LongLineLemmas.{passed_counted, passed_lines}
use Rattle.grep_core.proofs.SeenLemmas.{shown_so}
use Rattle.grep_core.proofs.blocks.report_one.Goals as goal

pub returns-in-Ok-pass-clause-goes_on : goal.returns-in-Ok-pass-clause-goes_on
returns-in-Ok-pass-clause-goes_on c by lines =
    let line : SplitLine = record { bytes = c.args.bytes.now; is_ended = c.args.is_ended } in
    let own : TextLine = record { number = c.args.progress.now.number; place = c.args.progress.now.place; content = line } in
    let seen : ShownLine = seen_line c.in-Ok.seen.replaced (map span_pair c.in-Ok.seen.found.items) line in
    let shown = shown_so c.args.task.what.now (finds_by c.args.task by) own seen (c.in-Ok.ensures.shown by) in
    let next = numbered (c.args.progress.now.number + 1) (c.args.progress.now.place + length c.args.bytes.now + 1) lines in
    c.in-Ok-report_line.ensures.goes_on (finds_by c.args.task by) own (c.in-Ok.ensures.has by)
    (ap (λ bytes. record own { content = record line { bytes = bytes } }) c.shown_bytes.ensures ∙ shown.0)
    (ap (map span_pair) c.deref.ensures.value ∙ shown.1) next
    ∙ ap (λ text. c.report_line.new.out.items ++ text)
    (passed_lines c.args.task (finds_by c.args.task by) c.args.progress.now c.pass.new.progress c.report_line.new.telling
    (length c.args.bytes.now) lines c.in-Ok-pass.ensures)

pub returns-in-Ok-pass-clause-counts : goal.returns-in-Ok-pass-clause-counts
returns-in-Ok-pass-clause-counts c by lines =
    let line : SplitLine = record { bytes = c.args.bytes.now; is_ended = c.args.is_ended } in
    let own : TextLine = record { number = c.args.progress.now.number; place = c.args.progress.now.place; content = line } in
    let next = numbered (c.args.progress.now.number + 1) (c.args.progress.now.place + length c.args.bytes.now + 1) lines in
    passed_counted c.args.task (finds_by c.args.task by) c.args.progress.now c.pass.new.progress c.report_line.new.telling
    (length c.args.bytes.now) lines c.in-Ok-pass.ensures
    ∙ c.in-Ok-report_line.ensures.counts (finds_by c.args.task by) own (c.in-Ok.ensures.has by) next
