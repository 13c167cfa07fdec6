use Rattle.std.proofs.Common.{◌≡◌, ◌+◌, ◌∙◌, ℕ, List, ap, length, refl, subst, sym, take}
use Rattle.std.specs.Io.KnownBytes.{Appends}
use Rattle.line_search.specs.Searchers.{found_by}
use Rattle.text_report.specs.EventCourse.{printed_all}
use Rattle.text_report.specs.Events.{Printed, ended_events, printed, stats_of}
use Rattle.text_report.specs.declared.event_lines.EventProgress.{EventProgress}
use Rattle.text_report.proofs.EventLoopLemmas.{begun_all, ended_all}
use Rattle.text_report.proofs.EventPieceLemmas.{size_all}
use Rattle.text_report.proofs.event_reports.write_events.Goals as goal

pub returns-in-Err-write_groups-clause-fault : goal.returns-in-Err-write_groups-clause-fault
returns-in-Err-write_groups-clause-fault g c by order =
    let t = c.args.task in
    let part = c.in-Err-write_groups.ensures.fault by order c.args.time in (
      part.0,
      subst (λ (x : Printed). Appends (g.W.Write.contents c.args.writer.now) (g.W.Write.contents c.write_groups.new.writer)
          (take part.0 (ended_events t.what.now t.name.now c.args.time (length t.text.now) x)))
          (begun_all t (found_by by) c.first_progress-progress.result c.new-out.result.items c.push_begin.new.out.items
          c.first_progress-progress.ensures c.new-out.ensures.items c.in-Ok.ensures) part.1,
    )

pub returns-in-Ok-write_end-clause-reported : goal.returns-in-Ok-write_end-clause-reported
returns-in-Ok-write_end-clause-reported g c by order =
    let t = c.args.task in
    let p : EventProgress = c.write_groups.new.progress in
    let pr = c.in-Ok-write_groups.ensures.printed in
    let whole : printed pr.all p.counts ≡ printed_all t (found_by by) =
    sym (ended_all t (found_by by) p (printed pr.all p.counts) c.in-Ok-write_groups.ensures.end)
    ∙ sym (pr.goes_on by order)
    ∙ begun_all t (found_by by) c.first_progress-progress.result c.new-out.result.items c.push_begin.new.out.items
    c.first_progress-progress.ensures c.new-out.ensures.items c.in-Ok.ensures in
    subst (λ (x : Printed). Appends (g.W.Write.contents c.args.writer.now) (g.W.Write.contents c.write_end.new.writer)
    (ended_events t.what.now t.name.now c.args.time (length t.text.now) x)) whole
    (c.in-Ok-write_end.ensures.written (g.W.Write.contents c.args.writer.now) pr.all pr.are_held)

pub returns-in-Ok-write_end-clause-stats : goal.returns-in-Ok-write_end-clause-stats
returns-in-Ok-write_end-clause-stats g c by order =
    let t = c.args.task in
    let p : EventProgress = c.write_groups.new.progress in
    let pr = c.in-Ok-write_groups.ensures.printed in
    let whole : printed pr.all p.counts ≡ printed_all t (found_by by) =
    sym (ended_all t (found_by by) p (printed pr.all p.counts) c.in-Ok-write_groups.ensures.end)
    ∙ sym (pr.goes_on by order)
    ∙ begun_all t (found_by by) c.first_progress-progress.result c.new-out.result.items c.push_begin.new.out.items
    c.first_progress-progress.ensures c.new-out.ensures.items c.in-Ok.ensures in
    c.in-Ok-write_end.ensures.stats pr.all
    (sym (size_all (g.W.Write.contents c.args.writer.now) (g.W.Write.contents c.write_groups.new.writer) pr.all c.write_groups.new.out.items
    p.written p.counts.end (p.written + length c.write_groups.new.out.items) refl pr.are_held))
    ∙ ap (stats_of t.what.now c.args.time (length t.text.now)) whole

pub returns-clause-fault : goal.returns-clause-fault
returns-clause-fault g c by order =
    let t = c.args.task in
    let p : EventProgress = c.write_groups.new.progress in
    let pr = c.in-Ok-write_groups.ensures.printed in
    let whole : printed pr.all p.counts ≡ printed_all t (found_by by) =
    sym (ended_all t (found_by by) p (printed pr.all p.counts) c.in-Ok-write_groups.ensures.end)
    ∙ sym (pr.goes_on by order)
    ∙ begun_all t (found_by by) c.first_progress-progress.result c.new-out.result.items c.push_begin.new.out.items
    c.first_progress-progress.ensures c.new-out.ensures.items c.in-Ok.ensures in
    let part = c.in-Err-write_end.ensures.fault (g.W.Write.contents c.args.writer.now) pr.all pr.are_held in (
      part.0,
      subst (λ (x : Printed). Appends (g.W.Write.contents c.args.writer.now) (g.W.Write.contents c.write_end.new.writer)
          (take part.0 (ended_events t.what.now t.name.now c.args.time (length t.text.now) x))) whole part.1,
    )
