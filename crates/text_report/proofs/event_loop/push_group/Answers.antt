use Rattle.std.proofs.Common.{◌≡◌, ◌∙◌, ap, arith, map, refl, slice_range, subst, sym}
use Rattle.line_search.specs.LineMatchers.{span_pair}
use Rattle.line_search.specs.Searchers.{found_by}
use Rattle.text_report.specs.EventCourse.{found_in, group_of, item_of}
use Rattle.text_report.specs.Events.{printed, with_event}
use Rattle.text_report.proofs.EventLoopLemmas.{group_is_item, some_bytes_of}
use Rattle.text_report.proofs.event_loop.push_group.Goals as goal

pub returns-in-Hidden-clause-reported : goal.returns-in-Hidden-clause-reported
returns-in-Hidden-clause-reported c by order =
    subst (λ r. printed c.args.out.now.items c.args.counts
    ≡ with_event c.args.task.what.now c.args.task.name.now r (item_of c.args.task (found_by by) (group_of c.args.task.text.now c.args.group))
    (printed c.args.out.now.items c.args.counts)) (sym c.in-Hidden.is) refl

pub returns-in-Ok-push_item-clause-kept : goal.returns-in-Ok-push_item-clause-kept
returns-in-Ok-push_item-clause-kept c none =
    c.in-Ok-push_item.ensures.kept
    (some_bytes_of c.args.task.text.now c.args.group.first.start c.whole_end.result _ refl
    (omega (arith, c.requires.lies.forward, c.whole_end.ensures)) (omega (arith, c.requires.lies.within, c.whole_end.ensures))) none

pub returns-in-Ok-push_item-clause-reported : goal.returns-in-Ok-push_item-clause-reported
returns-in-Ok-push_item-clause-reported c by order =
    let t = c.args.task in
    c.in-Ok-push_item.ensures.reported (item_of t (found_by by) (group_of t.text.now c.args.group))
    (group_is_item t.what.now c.args.group.role (found_in t) (found_by by) t.text.now c.args.group _ c.requires.lies.ordered c.requires.lies.inside
    refl refl (ap (slice_range t.text.now c.args.group.first.start) c.whole_end.ensures)
    (ap (map span_pair) c.deref.ensures.value ∙ c.in-Ok.ensures.found by order) refl)
