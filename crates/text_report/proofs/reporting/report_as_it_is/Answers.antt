use Rattle.std.proofs.Common.{◌∙◌, ℕ, List, ap, subst, take}
use Rattle.std.specs.Io.KnownBytes.{Appends}
use Rattle.grep_core.specs.Report.{counted_as}
use Rattle.text_report.proofs.WholeTextLemmas.{are_ordered, whole_count, whole_text}
use Rattle.text_report.proofs.reporting.report_as_it_is.Goals as goal

pub returns-in-Ok-report_found-clause-reported : goal.returns-in-Ok-report_found-clause-reported
returns-in-Ok-report_found-clause-reported g c by =
    let s = c.args.finder.now in
    let text : List ℕ = c.args.text.now in
    subst (Appends (g.W.Write.contents c.args.writer.now) (g.W.Write.contents c.report_found.new.writer))
    (whole_text s by text c.crlf-crlf.result c.deref.result.now c.in-Ok.found.items c.crlf-crlf.ensures c.deref.ensures.value c.in-Ok.ensures.reported
    c.args.what.now c.args.name.now c.args.with_name c.args.known)
    (c.in-Ok-report_found.ensures.reported
    (are_ordered s by text c.crlf-crlf.result c.deref.result.now c.in-Ok.found.items c.crlf-crlf.ensures c.deref.ensures.value
    c.in-Ok.ensures.reported))

pub returns-in-Ok-report_found-clause-selected : goal.returns-in-Ok-report_found-clause-selected
returns-in-Ok-report_found-clause-selected g c by =
    let s = c.args.finder.now in
    let text : List ℕ = c.args.text.now in
    c.in-Ok-report_found.ensures.selected
    (are_ordered s by text c.crlf-crlf.result c.deref.result.now c.in-Ok.found.items c.crlf-crlf.ensures c.deref.ensures.value
    c.in-Ok.ensures.reported)
    ∙ ap (counted_as c.args.what.now.print)
    (whole_count s by text c.crlf-crlf.result c.deref.result.now c.in-Ok.found.items c.crlf-crlf.ensures c.deref.ensures.value c.in-Ok.ensures.reported
    c.args.what.now)

pub returns-clause-fault : goal.returns-clause-fault
returns-clause-fault g c by =
    let s = c.args.finder.now in
    let text : List ℕ = c.args.text.now in
    let part =
    c.in-Err-report_found.ensures.fault
    (are_ordered s by text c.crlf-crlf.result c.deref.result.now c.in-Ok.found.items c.crlf-crlf.ensures c.deref.ensures.value
    c.in-Ok.ensures.reported) in (
      part.0,
      subst (λ (l : List ℕ). Appends (g.W.Write.contents c.args.writer.now) (g.W.Write.contents c.report_found.new.writer) (take part.0 l))
          (whole_text s by text c.crlf-crlf.result c.deref.result.now c.in-Ok.found.items c.crlf-crlf.ensures c.deref.ensures.value
          c.in-Ok.ensures.reported c.args.what.now c.args.name.now c.args.with_name c.args.known) part.1,
    )
