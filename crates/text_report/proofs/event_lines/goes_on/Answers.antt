use Rattle.std.proofs.Common.{◌+◌, ◌∙◌, sym}
use Rattle.text_report.specs.EventCourse.{joins_lines, roles_left}
use Rattle.text_report.specs.LineSpans.{lines_from}
use Rattle.text_report.proofs.EventLineLemmas.{put_before_as, put_last_as}
use Rattle.text_report.proofs.event_lines.goes_on.Goals as goal

pub returns-then-at-task-clause-apart : goal.returns-then-at-task-clause-apart
returns-then-at-task-clause-apart c none joins a =
    put_last_as joins (joins_lines c.args.task) a (roles_left c.args.task.what.now c.args.task.flags.now c.args.turn)
    c.args.task.what.now.terminator c.args.task.text.now (c.args.turn.index + 1) c.args.at c.if-at-task.true

pub returns-clause-apart : goal.returns-clause-apart
returns-clause-apart c none joins a =
    put_before_as joins (joins_lines c.args.task) a (roles_left c.args.task.what.now c.args.task.flags.now c.args.turn)
    (lines_from c.args.task.what.now.terminator c.args.task.text.now (c.args.turn.index + 1) c.args.at) (sym c.is_next_selected.ensures ∙ none)
