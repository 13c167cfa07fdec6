use Rattle.std.proofs.Common.{◌≡◌, ◌∙◌, ℕ, List, Some, ap, map, refl, subst, sym, take}
use Rattle.std.specs.Io.KnownBytes.{Appends}
use Rattle.search_types.specs.declared.span.Span.{Span}
use Rattle.line_search.specs.LineMatchers.{span_pair}
use Rattle.line_search.specs.Searchers.{AreReplaced, Sought}
use Rattle.grep_core.specs.Report.{counted_as}
use Rattle.text_report.specs.ReplacedText.{report_with, selected_touched}
use Rattle.text_report.proofs.WholeTextLemmas.{are_ordered, new_ordered, spans_are, whole_new}
use Rattle.text_report.proofs.replacing.report_replaced.Goals as goal

pub returns-in-Ok-report_found-clause-reported : goal.returns-in-Ok-report_found-clause-reported
returns-in-Ok-report_found-clause-reported g c by =
    let s : Sought = c.args.finder.now in
    let text : List ℕ = c.args.text.now in
    let template : List ℕ = c.args.template.now in
    let bytes : List ℕ = c.deref-2.result.now in
    let found : List Span = c.deref.result.now in
    let spans : List Span = c.deref-3.result.now in
    let r = c.in-Ok-replaced.replaced in
    let news : AreReplaced s.how s.texts template text bytes (map span_pair spans) =
    subst (λ (z : List Span). AreReplaced s.how s.texts template text bytes (map span_pair z)) (sym c.deref-3.ensures.value)
    (subst (λ (z : List ℕ). AreReplaced s.how s.texts template text z (map span_pair r.spans.items)) (sym c.deref-2.ensures.value)
    (subst (λ (z : Sought). AreReplaced z.how z.texts template text r.bytes.items (map span_pair r.spans.items)) c.in-Ok.ensures.same
    c.in-Ok-replaced.ensures.reported)) in
    subst (Appends (g.W.Write.contents c.args.writer.now) (g.W.Write.contents c.report_found.new.writer))
    (whole_new s by text template bytes (map span_pair spans) news c.crlf-crlf.result (map span_pair found) c.crlf-crlf.ensures
    (spans_are s by text c.crlf-crlf.result found c.in-Ok.found.items c.crlf-crlf.ensures c.deref.ensures.value c.in-Ok.ensures.reported)
    c.args.template refl c.args.what.now c.args.name.now c.args.with_name c.args.known)
    (c.in-Ok-report_found.ensures.reported
    (are_ordered s by text c.crlf-crlf.result found c.in-Ok.found.items c.crlf-crlf.ensures c.deref.ensures.value c.in-Ok.ensures.reported)
    (new_ordered s by text template bytes (map span_pair spans) news))

pub returns-in-Ok-report_found-clause-selected : goal.returns-in-Ok-report_found-clause-selected
returns-in-Ok-report_found-clause-selected g c by =
    let s : Sought = c.args.finder.now in
    let text : List ℕ = c.args.text.now in
    let found : List Span = c.deref.result.now in
    c.in-Ok-report_found.ensures.selected
    (are_ordered s by text c.crlf-crlf.result found c.in-Ok.found.items c.crlf-crlf.ensures c.deref.ensures.value c.in-Ok.ensures.reported)
    ∙ ap (λ (l : List (ℕ × ℕ)). counted_as c.args.what.now.print (selected_touched c.args.what.now l text))
    (spans_are s by text c.crlf-crlf.result found c.in-Ok.found.items c.crlf-crlf.ensures c.deref.ensures.value c.in-Ok.ensures.reported)

pub returns-clause-fault : goal.returns-clause-fault
returns-clause-fault g c by =
    let s : Sought = c.args.finder.now in
    let text : List ℕ = c.args.text.now in
    let template : List ℕ = c.args.template.now in
    let bytes : List ℕ = c.deref-2.result.now in
    let found : List Span = c.deref.result.now in
    let spans : List Span = c.deref-3.result.now in
    let r = c.in-Ok-replaced.replaced in
    let news : AreReplaced s.how s.texts template text bytes (map span_pair spans) =
    subst (λ (z : List Span). AreReplaced s.how s.texts template text bytes (map span_pair z)) (sym c.deref-3.ensures.value)
    (subst (λ (z : List ℕ). AreReplaced s.how s.texts template text z (map span_pair r.spans.items)) (sym c.deref-2.ensures.value)
    (subst (λ (z : Sought). AreReplaced z.how z.texts template text r.bytes.items (map span_pair r.spans.items)) c.in-Ok.ensures.same
    c.in-Ok-replaced.ensures.reported)) in
    let part =
    c.in-Err-report_found.ensures.fault
    (are_ordered s by text c.crlf-crlf.result found c.in-Ok.found.items c.crlf-crlf.ensures c.deref.ensures.value c.in-Ok.ensures.reported)
    (new_ordered s by text template bytes (map span_pair spans) news) in (
      part.0,
      subst (λ (l : List ℕ). Appends (g.W.Write.contents c.args.writer.now) (g.W.Write.contents c.report_found.new.writer) (take part.0 l))
          (whole_new s by text template bytes (map span_pair spans) news c.crlf-crlf.result (map span_pair found) c.crlf-crlf.ensures
          (spans_are s by text c.crlf-crlf.result found c.in-Ok.found.items c.crlf-crlf.ensures c.deref.ensures.value c.in-Ok.ensures.reported)
          c.args.template refl c.args.what.now c.args.name.now c.args.with_name c.args.known) part.1,
    )
