use Rattle.std.proofs.Common.{◌∙◌, true, sym}
use Rattle.hirgrep_main.specs.Decisions.{is_headed}
use Rattle.grep_cli.specs.Inputs.{is_by_lines}
use Rattle.hirgrep_main.specs.Tasks.{body_count, report_by, whole_report_by}
use Rattle.hirgrep_main.proofs.ReportLemmas.{has_heading, lines_reported}
use Rattle.hirgrep_main.proofs.inputs.reporting.report_otherwise.Goals as goal

pub returns-then-not-is_by_lines-clause-reported : goal.returns-then-not-is_by_lines-clause-reported
returns-then-not-is_by_lines-clause-reported g c = λ _. c.report_whole.ensures.reported

pub returns-clause-reported : goal.returns-clause-reported
returns-clause-reported g c =
    let r = c.args.task.asked.now.reading in
    let has = is_headed c.args.task.asked.now.heading c.args.what.now.print in
    let by_lines = sym c.is_by_lines.ensures ∙ c.if-not-is_by_lines.false in
    λ other. lines_reported c.args.finder.now c.args.what.now r has true
    (g.R.Read.remaining c.args.reader.now) (g.W.Write.contents c.args.writer.now.writer) (g.W.Write.contents c.report_headed.new.writer.writer)
    c.report_headed.result (λ r h m text. report_by r h c.args.task c.args.what.now c.args.outcome m c.args.name.now text)
    (λ r h m text. whole_report_by r h c.args.task c.args.what.now c.args.outcome m c.args.name.now text)
    (λ r m text. body_count r c.args.what.now m c.args.name.now text) by_lines (has_heading (is_by_lines r) has other by_lines)
    c.report_headed.ensures.reported c.report_headed.ensures.selected c.report_headed.ensures.fault
