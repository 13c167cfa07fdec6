use Rattle.std.proofs.Common.{◌∙◌, sym}
use Rattle.text_report.specs.EventCourse.{group_of, groups_left, joins_lines}
use Rattle.text_report.specs.LineSpans.{whole_end}
use Rattle.text_report.proofs.EventLineLemmas.{put_alone}
use Rattle.text_report.proofs.event_lines.take_group.Goals as goal

pub returns-then-not-is_joined-clause-lines : goal.returns-then-not-is_joined-clause-lines
returns-then-not-is_joined-clause-lines c =
    let t = c.args.task in
    c.in-Ok.ensures.lines
    ∙ put_alone (joins_lines t) (group_of t.text.now c.in-Ok.line) (groups_left t c.take_line.new.turn (whole_end c.in-Ok.line.last))
    (sym c.is_joined.ensures ∙ c.if-not-is_joined.true)
