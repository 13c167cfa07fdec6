use Rattle.std.proofs.Common.{◌≡◌, ◌∷◌, ◌++◌, ◌∙◌, Some, ap, arith, map, subst, sym}
use Rattle.line_search.specs.LineMatchers.{span_pair}
use Rattle.text_report.specs.EventCourse.{IsGroup, group_of, groups_left, task_with}
use Rattle.text_report.specs.LineSpans.{whole_end}
use Rattle.text_report.specs.ReplacedProgress.{report_left}
use Rattle.text_report.specs.ReplacedText.{begun_before}
use Rattle.text_report.specs.declared.event_lines.EventTask.{EventTask}
use Rattle.text_report.proofs.ReplacedLemmas.{are_begun, now_begun, still_begun}
use Rattle.text_report.proofs.replacing.report_next.Goals as goal

pub report_group-requires-clause-lies : goal.report_group-requires-clause-lies
report_group-requires-clause-lies c =
    subst (λ (z : EventTask). IsGroup z.text.now c.in-Ok.group) c.events_of.ensures c.in-Ok.ensures.takes.lies

pub report_group-requires-clause-counted : goal.report_group-requires-clause-counted
report_group-requires-clause-counted c =
    now_begun c.args.task.task.found.now c.args.progress.now.first c.begun_before-first.result c.args.progress.now.at
    c.in-Ok.group.first.start c.requires.begun c.begun_before-first.ensures.counted c.in-Ok.ensures.takes.starts

pub report_group-requires-clause-begun : goal.report_group-requires-clause-begun
report_group-requires-clause-begun c =
    are_begun c.args.task.task.found.now c.begun_before-first.result c.in-Ok.group.first.start
    (now_begun c.args.task.task.found.now c.args.progress.now.first c.begun_before-first.result c.args.progress.now.at
    c.in-Ok.group.first.start c.requires.begun c.begun_before-first.ensures.counted c.in-Ok.ensures.takes.starts)

pub returns-clause-begun : goal.returns-clause-begun
returns-clause-begun c =
    still_begun c.args.task.task.found.now c.begun_before-first.result c.in-Ok.group.first.start c.whole_end-progress.result
    (omega (arith, c.in-Ok.ensures.takes.lies.forward, c.whole_end-progress.ensures))
    (are_begun c.args.task.task.found.now c.begun_before-first.result c.in-Ok.group.first.start
    (now_begun c.args.task.task.found.now c.args.progress.now.first c.begun_before-first.result c.args.progress.now.at
    c.in-Ok.group.first.start c.requires.begun c.begun_before-first.ensures.counted c.in-Ok.ensures.takes.starts))

pub returns-clause-goes_on : goal.returns-clause-goes_on
returns-clause-goes_on c order =
    let t = c.args.task in
    let p = c.args.progress.now in
    let group = c.in-Ok.group in
    let events = task_with t.task.what t.task.name t.task.text t.flags (Some t.task.found) in
    let first : groups_left events p.turn p.at
    ≡ group_of t.task.text.now group ∷ groups_left events c.take_group.new.turn (whole_end group.last) =
    subst (λ (z : EventTask). groups_left z p.turn p.at
    ≡ group_of z.text.now group ∷ groups_left z c.take_group.new.turn (whole_end group.last)) c.events_of.ensures c.in-Ok.ensures.lines in
    ap (λ gs. c.args.out.now.items ++ report_left t p.telling gs) first
    ∙ c.in-Ok-report_group.ensures.goes_on order (groups_left events c.take_group.new.turn (whole_end group.last))
    ∙ ap (λ n. c.report_group.new.out.items ++ report_left t c.report_group.new.telling (groups_left events c.take_group.new.turn n))
    (sym c.whole_end-progress.ensures)
