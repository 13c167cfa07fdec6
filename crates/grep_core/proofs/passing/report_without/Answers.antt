use Rattle.std.proofs.Common.{◌+◌, ◌++◌, ◌∙◌, [], ap, length, sym}
use Rattle.line_search.specs.Lines.{TextLine, ended, numbered}
use Rattle.grep_core.specs.Report.{as_it_is}
use Rattle.grep_core.proofs.LongLineLemmas.{passed_counted, passed_lines}
use Rattle.grep_core.proofs.SeenLemmas.{shown_so, shown_without}
use Rattle.grep_core.proofs.passing.report_without.Goals as goal

pub returns-in-Ok-pass-clause-goes_on : goal.returns-in-Ok-pass-clause-goes_on
returns-in-Ok-pass-clause-goes_on c f lack lines =
    let own : TextLine = record {
      number = c.args.progress.now.number;
      place = c.args.progress.now.place;
      content = ended c.args.bytes.now;
    } in
    let shown = shown_so c.args.task.what.now f own (as_it_is (ended c.args.bytes.now) [])
    (sym (shown_without c.args.task.what.now f (ended c.args.bytes.now) lack.no_text lack.no_change)) in
    let next = numbered (c.args.progress.now.number + 1) (c.args.progress.now.place + length c.args.bytes.now + 1) lines in
    c.in-Ok.ensures.goes_on f own (sym lack.no_match) shown.0 shown.1 next
    ∙ ap (λ text. c.report_line.new.out.items ++ text)
    (passed_lines c.args.task f c.args.progress.now c.pass.new.progress c.report_line.new.telling
    (length c.args.bytes.now) lines c.in-Ok-pass.ensures)

pub returns-in-Ok-pass-clause-counts : goal.returns-in-Ok-pass-clause-counts
returns-in-Ok-pass-clause-counts c f lack lines =
    let own : TextLine = record {
      number = c.args.progress.now.number;
      place = c.args.progress.now.place;
      content = ended c.args.bytes.now;
    } in
    let next = numbered (c.args.progress.now.number + 1) (c.args.progress.now.place + length c.args.bytes.now + 1) lines in
    passed_counted c.args.task f c.args.progress.now c.pass.new.progress c.report_line.new.telling
    (length c.args.bytes.now) lines c.in-Ok-pass.ensures
    ∙ c.in-Ok.ensures.counts f own (sym lack.no_match) next
