use Rattle.std.proofs.Common.{◌≡◌, ◌∙◌, ℕ, List, None, ap, length, subst, take, true}
use Rattle.std.specs.Io.KnownBytes.{Appends}
use Rattle.line_search.specs.Searchers.{SearchesFor, Sought, found_by}
use Rattle.text_report.specs.EventCourse.{all_events, all_stats, task_with}
use Rattle.text_report.specs.Events.{Printed, ended_events, stats_of}
use Rattle.text_report.proofs.EventLoopLemmas.{lines_report}
use Rattle.text_report.proofs.event_reports.report_events.Goals as goal

pub returns-in-Ok-write_report-clause-reported : goal.returns-in-Ok-write_report-clause-reported
returns-in-Ok-write_report-clause-reported g c by =
    subst (λ (x : Printed). Appends (g.W.Write.contents c.args.writer.now) (g.W.Write.contents c.write_report.new.writer)
    (ended_events c.args.what.now c.args.name.now c.args.time (length c.args.text.now) x))
    (lines_report c.args.what c.args.name c.args.text c.deref.result (found_by by) (c.deref.ensures.value ∙ c.in-Ok.ensures.selected by))
    (subst (λ (s : Sought). (by : SearchesFor s true) → Appends (g.W.Write.contents c.args.writer.now) (g.W.Write.contents c.write_report.new.writer)
    (all_events (task_with c.args.what c.args.name c.args.text c.deref.result None) (found_by by) c.args.time)) c.in-Ok.ensures.same
    (λ it. c.in-Ok-write_report.ensures.reported it tt) by)

pub returns-in-Ok-write_report-clause-stats : goal.returns-in-Ok-write_report-clause-stats
returns-in-Ok-write_report-clause-stats g c by =
    subst (λ (s : Sought). (by : SearchesFor s true) → c.in-Ok-write_report.stats
    ≡ all_stats (task_with c.args.what c.args.name c.args.text c.deref.result None) (found_by by) c.args.time) c.in-Ok.ensures.same
    (λ it. c.in-Ok-write_report.ensures.stats it tt) by
    ∙ ap (stats_of c.args.what.now c.args.time (length c.args.text.now))
    (lines_report c.args.what c.args.name c.args.text c.deref.result (found_by by) (c.deref.ensures.value ∙ c.in-Ok.ensures.selected by))

pub returns-clause-fault : goal.returns-clause-fault
returns-clause-fault g c by =
    subst (λ (x : Printed). (n : ℕ) × Appends (g.W.Write.contents c.args.writer.now) (g.W.Write.contents c.write_report.new.writer)
    (take n (ended_events c.args.what.now c.args.name.now c.args.time (length c.args.text.now) x)))
    (lines_report c.args.what c.args.name c.args.text c.deref.result (found_by by) (c.deref.ensures.value ∙ c.in-Ok.ensures.selected by))
    (subst (λ (s : Sought). (by : SearchesFor s true) →
    (n : ℕ) × Appends (g.W.Write.contents c.args.writer.now) (g.W.Write.contents c.write_report.new.writer)
    (take n (all_events (task_with c.args.what c.args.name c.args.text c.deref.result None) (found_by by) c.args.time))) c.in-Ok.ensures.same
    (λ it. c.in-Err-write_report.ensures.fault it tt) by)
