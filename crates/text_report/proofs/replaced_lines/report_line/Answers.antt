use Rattle.text_report.specs.LineSpans.{line_of}
use Rattle.text_report.proofs.NewLineLemmas.{line_dropped, line_kept}
use Rattle.text_report.proofs.replaced_lines.report_line.Goals as goal

pub returns-then-not-is_kept-clause-goes_on : goal.returns-then-not-is_kept-clause-goes_on
returns-then-not-is_kept-clause-goes_on c order past has rest =
    line_dropped c.args.lines (line_of c.args.lines.task.text.now c.args.seen.line) rest c.is_kept.result c.args.seen.has c.is_kept.ensures has
    c.if-not-is_kept.true c.args.telling.now c.args.out.now.items

pub returns-in-Ok-clause-goes_on : goal.returns-in-Ok-clause-goes_on
returns-in-Ok-clause-goes_on c order past has rest =
    line_kept c.args.lines (line_of c.args.lines.task.text.now c.args.seen.line) rest c.is_kept.result c.args.seen.has c.is_kept.ensures has
    c.if-not-is_kept.false c.args.telling.now c.report_kept.new.telling c.args.out.now.items c.report_kept.new.out.items
    (c.in-Ok.ensures.goes_on order past)
