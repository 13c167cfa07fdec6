use Rattle.std.proofs.Common.{ap, inl}
use Rattle.hirgrep_main.specs.Outcomes.{with_totals}
use Rattle.hirgrep_main.specs.Tasks.{count_of, patterns_by, report_in, whole_report_in}
use Rattle.grep_cli.specs.PrintedNames.{printed_name}
use Rattle.hirgrep_main.proofs.OutcomeLemmas.{continues_as, continues_searched, continues_with, if_ok, searched_as}
use Rattle.hirgrep_main.proofs.ReportLemmas.{counted_known}
use Rattle.hirgrep_main.proofs.files.opening.search_reader.Goals as goal

pub returns-clause-came : goal.returns-clause-came
returns-clause-came g c =
    let task = record (c.args.task) { width = c.in-Ok.width } in
    if_ok _ c.in-Ok.width _ c.in-Ok.is (if_ok _ c.in-Ok-opened.reader _ c.in-Ok-opened.is (
      c.report_one-reported.result,
      c.count.result,
      c.wrote-wrote.result,
      c.report_one-reported.new.totals,
      c.keep_search.ensures,
      counted_known (g.R.Read.remaining c.in-Ok-opened.reader) _ _ _ c.report_one-reported.result
          (λ by text. report_in task c.args.outcome.now (patterns_by by) (printed_name c.args.task.hides_controls c.args.name.now) text)
          (λ by text. whole_report_in task c.args.outcome.now (patterns_by by) (printed_name c.args.task.hides_controls c.args.name.now) text)
          (λ by text. count_of task (patterns_by by) (printed_name c.args.task.hides_controls c.args.name.now) text)
          (ap g.R.Read.remaining c.new-input.ensures.reader) c.report_one-reported.ensures.reported,
    ))

pub returns-clause-counted : goal.returns-clause-counted
returns-clause-counted g c =
    let print = c.args.task.asked.now.what.print in
    if_ok _ c.in-Ok.width _ c.in-Ok.is (if_ok _ c.in-Ok-opened.reader _ c.in-Ok-opened.is
    (searched_as print (with_totals c.args.outcome.now c.report_one-reported.new.totals) c.count.result c.wrote-wrote.result c.report_one-reported.result
    c.keep_search.ensures))

pub returns-clause-tried : goal.returns-clause-tried
returns-clause-tried g c =
    let print = c.args.task.asked.now.what.print in
    inl (searched_as print (with_totals c.args.outcome.now c.report_one-reported.new.totals) c.count.result c.wrote-wrote.result c.report_one-reported.result
    c.keep_search.ensures)

pub returns-clause-continues : goal.returns-clause-continues
returns-clause-continues g c =
    let print = c.args.task.asked.now.what.print in
    let before = with_totals c.args.outcome.now c.report_one-reported.new.totals in
    continues_with c.report_one-reported.new.totals
    (continues_as (continues_searched print before c.count.result c.wrote-wrote.result c.report_one-reported.result) c.keep_search.ensures)
