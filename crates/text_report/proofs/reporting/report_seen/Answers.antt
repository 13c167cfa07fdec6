use Rattle.std.proofs.Common.{◌&&◌, ◌∙◌, Bool, List, ap, if◌then◌else◌, map, not}
use Rattle.search_types.specs.declared.span.Span.{Span}
use Rattle.line_search.specs.LineMatchers.{span_pair}
use Rattle.line_search.specs.Lines.{TextLine}
use Rattle.grep_core.specs.ContextPrinting.{item}
use Rattle.grep_core.specs.Reporting.{may_select, number_of}
use Rattle.grep_core.specs.declared.reporter.Reporter.{Reporter}
use Rattle.text_report.specs.LineSpans.{line_of}
use Rattle.text_report.specs.TextProgress.{matches_of_task}
use Rattle.text_report.specs.TextReports.{is_wanted_in, text_item}
use Rattle.text_report.proofs.ReportLemmas.{line_counts, line_goes_on}
use Rattle.text_report.proofs.reporting.report_seen.Goals as goal

pub returns-clause-goes_on : goal.returns-clause-goes_on
returns-clause-goes_on c order before has lines =
    let t = c.args.task in
    let own : TextLine = line_of t.text.now c.args.seen.line in
    let old : Reporter = c.args.telling.now in
    let new : Reporter = c.report_flagged.new.telling in
    line_goes_on t.what.now old.count new.count c.is_selected-is_selected.result (is_wanted_in t.what.now (matches_of_task t)) own
    (c.is_selected-is_selected.ensures
    ∙ ap (λ (h : Bool). (if t.what.now.invert then not h else h) && may_select t.what.now.most old.count) has)
    c.in_ok-report_flagged.ensures.count lines t.what.now.print t.name.now t.with_name old.course new.course
    (number_of t.what.now.print old) (number_of t.what.now.print new) (text_item t.what.now t.crlf (matches_of_task t))
    (item own (map span_pair c.deref.result.now))
    (ap (item own) (ap (λ (l : List Span). map span_pair l) c.deref.ensures.value ∙ c.in_ok-parts.ensures order before))
    c.args.out.now.items c.report_flagged.new.out.items c.in_ok-report_flagged.ensures.goes_on

pub returns-clause-counts : goal.returns-clause-counts
returns-clause-counts c has lines =
    let t = c.args.task in
    let own : TextLine = line_of t.text.now c.args.seen.line in
    let old : Reporter = c.args.telling.now in
    let new : Reporter = c.report_flagged.new.telling in
    line_counts t.what.now old.count new.count c.is_selected-is_selected.result (is_wanted_in t.what.now (matches_of_task t)) own
    (c.is_selected-is_selected.ensures
    ∙ ap (λ (h : Bool). (if t.what.now.invert then not h else h) && may_select t.what.now.most old.count) has)
    c.in_ok-report_flagged.ensures.count lines
