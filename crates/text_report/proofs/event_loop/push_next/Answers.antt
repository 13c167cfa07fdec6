use Rattle.std.proofs.Common.{◌++◌, ◌<◌, ◌∙◌, ap, arith, sym}
use Rattle.line_search.specs.Searchers.{found_by}
use Rattle.text_report.specs.EventCourse.{group_of, groups_left, item_of}
use Rattle.text_report.specs.Events.{printed}
use Rattle.text_report.specs.LineSpans.{whole_end}
use Rattle.text_report.specs.TextEvents.{with_all_lines}
use Rattle.text_report.proofs.EventLoopLemmas.{past_still}
use Rattle.text_report.proofs.EventPieceLemmas.{one_event}
use Rattle.text_report.proofs.event_loop.push_next.Goals as goal

pub returns-clause-past : goal.returns-clause-past
returns-clause-past c =
    past_still c.args.task.found c.match_index-first.result c.args.progress.now.at c.whole_end-progress.result
    (omega (arith, c.in-Ok.ensures.takes.lies.forward, c.in-Ok.ensures.takes.starts, c.whole_end-progress.ensures)) c.match_index-first.ensures

pub returns-clause-goes_on : goal.returns-clause-goes_on
returns-clause-goes_on c by order before =
    let t = c.args.task in
    let group = c.in-Ok.group in
    let new = c.push_group.new.out.items in
    one_event t.what.now t.name.now (item_of t (found_by by)) (groups_left t c.args.progress.now.turn c.args.progress.now.at)
    (group_of t.text.now group) (groups_left t c.take_group.new.turn (whole_end group.last)) c.args.out.now.items new c.args.progress.now.counts
    c.in-Ok-push_group.counts c.in-Ok.ensures.lines (c.in-Ok-push_group.ensures.reported by order) before
    ∙ ap (λ n. with_all_lines t.what.now t.name.now (item_of t (found_by by)) (groups_left t c.take_group.new.turn n)
    (printed (before ++ new) c.in-Ok-push_group.counts)) (sym c.whole_end-progress.ensures)
