use Rattle.std.proofs.Common.{◌∷◌, ◌∙◌, ℕ, List, ap, rules, sym}
use Rattle.line_search.specs.Lines.{SplitLine}
use Rattle.grep_core.specs.Blocks.{counts_lines, finds_by, reported_bytes}
use Rattle.text_report.specs.LineSpans.{content_of}
use Rattle.text_report.specs.Records.{records_left}
use Rattle.text_report.proofs.RecordLemmas.{one_reported}
use Rattle.text_report.proofs.records.report_record.Goals as goal

pub returns-in-Ok-clause-reports : goal.returns-in-Ok-clause-reports
returns-in-Ok-clause-reports c =
    let text : List ℕ = c.args.text.now in
    let line : SplitLine = content_of text c.in-Some.line in
    let split = c.in-Some.ensures.some.split ∙ ap (λ n. line ∷ records_left c.args.task text n) (sym c.whole_end.ensures) in
    record {
      on = search rules;
      within = search rules;
      goes_on = λ by.
          one_reported (reported_bytes c.args.task (finds_by c.args.task by)) c.args.progress.now c.report_one.new.progress
          (records_left c.args.task text c.args.at) (records_left c.args.task text c.whole_end.result) line
          c.args.out.now.items c.report_one.new.out.items split (c.in-Ok.ensures.goes_on by);
      counts = λ by.
          c.in-Ok.ensures.counts by (records_left c.args.task text c.whole_end.result)
          ∙ ap (counts_lines c.args.task (finds_by c.args.task by) c.args.progress.now) (sym split);
    }
