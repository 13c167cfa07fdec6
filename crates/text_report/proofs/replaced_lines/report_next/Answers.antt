use Rattle.std.proofs.Common.{ap}
use Rattle.text_report.specs.LineSpans.{line_of}
use Rattle.text_report.specs.ReplacedProgress.{new_left}
use Rattle.text_report.specs.declared.text_lines.TextPosition.{TextPosition}
use Rattle.text_report.proofs.NewLineLemmas.{next_new, reports_next}
use Rattle.text_report.proofs.replaced_lines.report_next.Goals as goal

pub returns-in-Ok-position_after-clause-goes_on : goal.returns-in-Ok-position_after-clause-goes_on
returns-in-Ok-position_after-clause-goes_on c order =
    let a = c.args.lines in
    let seen = c.in-Some.seen in
    let next = c.in-Ok-position_after.next in
    reports_next a (new_left a c.args.at) (new_left a next) (line_of a.task.text.now seen.line) c.args.telling.now c.report_line.new.telling
    c.args.out.now.items c.report_line.new.out.items
    (next_new a c.args.at next seen.line c.in-Some.ensures.some (ap (λ (q : TextPosition). q.number) c.in-Ok-position_after.ensures)
    (ap (λ (q : TextPosition). q.place) c.in-Ok-position_after.ensures))
    (c.in-Ok.ensures.goes_on order (c.in-Some.ensures.first c.requires.past) (c.in-Some.ensures.has order c.requires.past) (new_left a next))
