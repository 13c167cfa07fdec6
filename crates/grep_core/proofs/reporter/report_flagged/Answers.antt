use Rattle.std.proofs.Common.{◌≡◌, ℕ, ◌+◌, length, map, sym}
use Rattle.std.proofs.lemmas.List.{length-map}
use Rattle.line_search.specs.LineMatchers.{span_pair}
use Rattle.grep_core.specs.Reporting.{added, number_of}
use Rattle.grep_core.specs.declared.output_options.Print.{Print}
use Rattle.grep_core.specs.declared.reporter.Reporter.{Reporter}
use Rattle.grep_core.proofs.TellingLemmas.{number_told}
use Rattle.grep_core.proofs.reporter.report_flagged.Goals as goal

pub returns-clause-goes_on : goal.returns-clause-goes_on
returns-clause-goes_on c flags items =
    let print : Print = c.args.what.now.print in
    let sel = c.args.is_selected in
    let before : Reporter = c.args.telling.now in
    let after : Reporter = record {
      course = c.report_by_flags.new.course;
      count = c.in_ok-telling.field-0;
      matches = c.in_ok-telling-2.field-0;
    } in
    let number : number_of print after ≡ number_of print before + added print sel (length (map span_pair c.args.found.now)) =
    number_told print before after sel (length c.args.found.now) (length (map span_pair c.args.found.now))
    (sym (length-map c.args.found.now span_pair)) c.in_ok-telling.ensures c.in_ok-telling-2.ensures in
    c.in_ok-report_by_flags.ensures.goes_on c.args.name.now c.args.with_name (number_of print before)
    (number_of print after) flags items (sym c.shown.ensures) number
