use Rattle.std.proofs.Common.{◌≡◌, ◌∙◌, ℕ, List, Some, ap, length, map, refl, subst, sym, take, true}
use Rattle.std.specs.Io.KnownBytes.{Appends}
use Rattle.search_types.specs.declared.span.Span.{Span}
use Rattle.line_search.specs.LineMatchers.{span_pair}
use Rattle.line_search.specs.Patterns.{spans_in}
use Rattle.line_search.specs.Searchers.{SearchesFor, Sought, found_by}
use Rattle.text_report.specs.EventCourse.{AreOrdered, all_events, all_stats, printed_all, task_with}
use Rattle.text_report.specs.Events.{Printed, ended_events, stats_of}
use Rattle.text_report.specs.TextEvents.{printed_text, touched_lines}
use Rattle.text_report.specs.Touching.{StartInOrder}
use Rattle.text_report.proofs.EventLoopLemmas.{text_report}
use Rattle.text_report.proofs.WholeTextLemmas.{are_ordered, spans_are}
use Rattle.text_report.proofs.event_reports.report_text_events.Goals as goal

pub returns-in-Ok-write_report-clause-reported : goal.returns-in-Ok-write_report-clause-reported
returns-in-Ok-write_report-clause-reported g c by =
    let s : Sought = c.args.finder.now in
    let text : List ℕ = c.args.text.now in
    let order : StartInOrder (map span_pair c.deref-3.result.now) =
    are_ordered s by text s.how.crlf c.deref-3.result.now c.in-Ok.found.items refl c.deref-3.ensures.value c.in-Ok.ensures.reported in
    let are : printed_all (task_with c.args.what c.args.name c.args.text c.deref-2.result (Some c.deref-3.result)) (found_by by)
    ≡ printed_text c.args.what.now (spans_in by.how by.patterns text) c.args.name.now text =
    text_report c.args.what c.args.name c.args.text c.deref-2.result c.deref-3.result (found_by by) (spans_in by.how by.patterns text)
    (spans_are s by text s.how.crlf c.deref-3.result.now c.in-Ok.found.items refl c.deref-3.ensures.value c.in-Ok.ensures.reported)
    (c.deref-2.ensures.value
    ∙ c.in-Ok-select_touched.ensures
    (are_ordered s by text s.how.crlf c.deref.result.now c.in-Ok.found.items refl c.deref.ensures.value c.in-Ok.ensures.reported)
    ∙ ap (λ (l : List Span). touched_lines c.args.what.now (map span_pair l) text) (c.deref.ensures.value ∙ sym c.deref-3.ensures.value)) in
    subst (λ (x : Printed). Appends (g.W.Write.contents c.args.writer.now) (g.W.Write.contents c.write_report.new.writer)
    (ended_events c.args.what.now c.args.name.now c.args.time (length text) x)) are
    (subst (λ (z : Sought). (it : SearchesFor z true) → AreOrdered (task_with c.args.what c.args.name c.args.text c.deref-2.result (Some c.deref-3.result)) →
    Appends (g.W.Write.contents c.args.writer.now) (g.W.Write.contents c.write_report.new.writer)
    (all_events (task_with c.args.what c.args.name c.args.text c.deref-2.result (Some c.deref-3.result)) (found_by it) c.args.time))
    c.in-Ok.ensures.same c.in-Ok-write_report.ensures.reported by order)

pub returns-in-Ok-write_report-clause-stats : goal.returns-in-Ok-write_report-clause-stats
returns-in-Ok-write_report-clause-stats g c by =
    let s : Sought = c.args.finder.now in
    let text : List ℕ = c.args.text.now in
    let order : StartInOrder (map span_pair c.deref-3.result.now) =
    are_ordered s by text s.how.crlf c.deref-3.result.now c.in-Ok.found.items refl c.deref-3.ensures.value c.in-Ok.ensures.reported in
    let are : printed_all (task_with c.args.what c.args.name c.args.text c.deref-2.result (Some c.deref-3.result)) (found_by by)
    ≡ printed_text c.args.what.now (spans_in by.how by.patterns text) c.args.name.now text =
    text_report c.args.what c.args.name c.args.text c.deref-2.result c.deref-3.result (found_by by) (spans_in by.how by.patterns text)
    (spans_are s by text s.how.crlf c.deref-3.result.now c.in-Ok.found.items refl c.deref-3.ensures.value c.in-Ok.ensures.reported)
    (c.deref-2.ensures.value
    ∙ c.in-Ok-select_touched.ensures
    (are_ordered s by text s.how.crlf c.deref.result.now c.in-Ok.found.items refl c.deref.ensures.value c.in-Ok.ensures.reported)
    ∙ ap (λ (l : List Span). touched_lines c.args.what.now (map span_pair l) text) (c.deref.ensures.value ∙ sym c.deref-3.ensures.value)) in
    subst (λ (z : Sought). (it : SearchesFor z true) → AreOrdered (task_with c.args.what c.args.name c.args.text c.deref-2.result (Some c.deref-3.result)) →
    c.in-Ok-write_report.stats
    ≡ all_stats (task_with c.args.what c.args.name c.args.text c.deref-2.result (Some c.deref-3.result)) (found_by it) c.args.time)
    c.in-Ok.ensures.same c.in-Ok-write_report.ensures.stats by order
    ∙ ap (stats_of c.args.what.now c.args.time (length text)) are

pub returns-clause-fault : goal.returns-clause-fault
returns-clause-fault g c by =
    let s : Sought = c.args.finder.now in
    let text : List ℕ = c.args.text.now in
    let order : StartInOrder (map span_pair c.deref-3.result.now) =
    are_ordered s by text s.how.crlf c.deref-3.result.now c.in-Ok.found.items refl c.deref-3.ensures.value c.in-Ok.ensures.reported in
    let are : printed_all (task_with c.args.what c.args.name c.args.text c.deref-2.result (Some c.deref-3.result)) (found_by by)
    ≡ printed_text c.args.what.now (spans_in by.how by.patterns text) c.args.name.now text =
    text_report c.args.what c.args.name c.args.text c.deref-2.result c.deref-3.result (found_by by) (spans_in by.how by.patterns text)
    (spans_are s by text s.how.crlf c.deref-3.result.now c.in-Ok.found.items refl c.deref-3.ensures.value c.in-Ok.ensures.reported)
    (c.deref-2.ensures.value
    ∙ c.in-Ok-select_touched.ensures
    (are_ordered s by text s.how.crlf c.deref.result.now c.in-Ok.found.items refl c.deref.ensures.value c.in-Ok.ensures.reported)
    ∙ ap (λ (l : List Span). touched_lines c.args.what.now (map span_pair l) text) (c.deref.ensures.value ∙ sym c.deref-3.ensures.value)) in
    subst (λ (x : Printed). (n : ℕ) × Appends (g.W.Write.contents c.args.writer.now) (g.W.Write.contents c.write_report.new.writer)
    (take n (ended_events c.args.what.now c.args.name.now c.args.time (length text) x))) are
    (subst (λ (z : Sought). (it : SearchesFor z true) → AreOrdered (task_with c.args.what c.args.name c.args.text c.deref-2.result (Some c.deref-3.result)) →
    (n : ℕ) × Appends (g.W.Write.contents c.args.writer.now) (g.W.Write.contents c.write_report.new.writer)
    (take n (all_events (task_with c.args.what c.args.name c.args.text c.deref-2.result (Some c.deref-3.result)) (found_by it) c.args.time)))
    c.in-Ok.ensures.same c.in-Err-write_report.ensures.fault by order)
