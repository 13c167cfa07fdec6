use Rattle.std.proofs.Common.{map}
use Rattle.line_search.specs.LineMatchers.{span_pair}
use Rattle.grep_core.specs.Printing.{text_line}
use Rattle.grep_core.specs.Reporting.{number_of}
use Rattle.grep_core.specs.declared.output_options.Print.{Print}
use Rattle.grep_core.specs.declared.reporter.Reporter.{Reporter}
use Rattle.grep_core.proofs.TellingLemmas.{line_told, line_counted}
use Rattle.grep_core.proofs.reporter.report_line.Goals as goal

pub returns-clause-goes_on : goal.returns-clause-goes_on
returns-clause-goes_on c f own seen shows spans lines =
    let print : Print = c.args.what.now.print in
    let before : Reporter = c.args.telling.now in
    let after : Reporter = c.report_flagged.new.telling in
    line_told print c.args.what.now f c.args.name.now c.args.with_name before.course after.course before.count after.count
    (number_of print before) (number_of print after) c.is_selected-is_selected.result c.args.has (text_line c.args.line) own
    (map span_pair c.args.found.now)
    c.args.out.now.items c.report_flagged.new.out.items lines c.is_selected-is_selected.ensures seen shows spans
    c.in_ok-report_flagged.ensures.count c.in_ok-report_flagged.ensures.goes_on

pub returns-clause-counts : goal.returns-clause-counts
returns-clause-counts c f own seen lines =
    line_counted c.args.what.now f c.args.telling.now.count c.report_flagged.new.telling.count c.is_selected-is_selected.result c.args.has
    own lines
    c.is_selected-is_selected.ensures seen c.in_ok-report_flagged.ensures.count
