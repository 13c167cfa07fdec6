use Rattle.std.proofs.Common.{◌≡◌, ◌&&◌, ◌∙◌, ap, subst, sym, true}
use Rattle.text_report.specs.EventCourse.{group_of, groups_left, joins_lines}
use Rattle.text_report.specs.LineSpans.{whole_end}
use Rattle.text_report.specs.TextEvents.{is_selected, put_lines}
use Rattle.text_report.specs.declared.event_lines.Group.{Group}
use Rattle.text_report.proofs.EventLineLemmas.{joined_lies, joined_step}
use Rattle.text_report.proofs.event_lines.take_joined.Goals as goal

pub loop-task-preserved : goal.loop-task-preserved
loop-task-preserved c =
    let t = c.args.task in
    let old = c.loop-task in
    let next = c.in-Ok.next in
    record {
      lies = joined_lies t.text.now old.group next c.in-Ok-joined.group c.in-Ok-joined.ensures old.invariant.lies c.in-Ok.ensures.takes.lies
          (c.in-Ok.ensures.takes.starts ∙ c.whole_end-in-loop-task.ensures);
      starts = ap (λ (g : Group). g.first.start) c.in-Ok-joined.ensures ∙ old.invariant.starts;
      known = c.in-Ok.ensures.takes.known;
      joins = ap (λ (g : Group). joins_lines t && is_selected g.role) c.in-Ok-joined.ensures ∙ old.invariant.joins;
      kept = old.invariant.kept
          ∙ ap (λ n. put_lines (joins_lines t) (group_of t.text.now old.group) (groups_left t old.turn n)) (sym c.whole_end-in-loop-task.ensures)
          ∙ joined_step (joins_lines t) t.text.now old.group next c.in-Ok-joined.group (λ n. groups_left t c.take_line.new.turn n)
          (groups_left t old.turn c.whole_end-in-loop-task.result) c.in-Ok-joined.ensures c.in-Ok.ensures.lines old.invariant.joins
          (c.in-Ok.ensures.role ∙ c.goes_on.ensures.selected c.loop-task-test.true);
    }
