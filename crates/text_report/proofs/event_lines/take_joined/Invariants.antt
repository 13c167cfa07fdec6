use Rattle.std.proofs.Common.{◌≡◌, ◌-◌, ◌&&◌, length, true}
use Rattle.text_report.specs.EventCourse.{IsGroup, KnowsNext, group_of, groups_left, joins_lines}
use Rattle.text_report.specs.LineSpans.{whole_end}
use Rattle.text_report.specs.TextEvents.{is_selected, put_lines}
use Rattle.text_report.proofs.event_lines.take_joined.Given as goal

abbrev pub invariant-loop-task : goal.invariant-loop-task
invariant-loop-task l = record {
  lies : IsGroup l.task.text.now l.group;
  starts : l.group.first.start ≡ l.fn.begun.first.start;
  known : KnowsNext l.task.flags.now l.turn;
  joins : (joins_lines l.task && is_selected l.group.role) ≡ true;
  kept : put_lines (joins_lines l.task) (group_of l.task.text.now l.fn.begun) (groups_left l.task l.fn.turn (whole_end l.fn.begun.last))
      ≡ put_lines (joins_lines l.task) (group_of l.task.text.now l.group) (groups_left l.task l.turn (whole_end l.group.last));
}

abbrev pub decreases-loop-task : goal.decreases-loop-task
decreases-loop-task l = length l.task.text.now - whole_end l.group.last
