use Rattle.std.proofs.Common.{◌∷◌, ◌++◌, ◌∙◌, List, ap, ap₂, map, sym}
use Rattle.search_types.specs.declared.span.Span.{Span}
use Rattle.line_search.specs.LineMatchers.{span_pair}
use Rattle.line_search.specs.Lines.{TextLine}
use Rattle.grep_core.specs.ContextPrinting.{item}
use Rattle.text_report.specs.LineSpans.{line_of}
use Rattle.text_report.specs.ReplacedProgress.{reported_items}
use Rattle.text_report.proofs.replaced_lines.report_kept.Goals as goal

pub returns-clause-goes_on : goal.returns-clause-goes_on
returns-clause-goes_on c order past flags items =
    let a = c.args.lines in
    let own : TextLine = line_of a.task.text.now c.args.seen.line in
    sym (ap₂ (λ place found. c.args.out.now.items
    ++ reported_items a.task c.args.telling.now (a.is_selected ∷ flags) (item (record own { place = place }) found ∷ items)) c.in_ok-place.ensures
    (ap (λ (l : List Span). map span_pair l) c.deref.ensures.value ∙ c.in_ok-parts.ensures order past))
    ∙ c.in_ok-report_flagged.ensures.goes_on flags items
