use Rattle.std.proofs.Common.{◌∙◌, Bool, true, false, subst, sym}
use Rattle.std.specs.Prelude.{IfSome}
use Rattle.line_search.specs.Searchers.{SearchesFor}
use Rattle.hirgrep_main.specs.Readings.{lists_in}
use Rattle.hirgrep_main.specs.Tasks.{IsInputReported, body_count, patterns_by, report_by, whole_report_by}
use Rattle.hirgrep_main.proofs.ReportLemmas.{same_as, whole_reported}
use Rattle.hirgrep_main.proofs.inputs.whole_report.report_whole.Goals as goal

pub returns-then-is_headed-clause-reported : goal.returns-then-is_headed-clause-reported
returns-then-is_headed-clause-reported g c =
    let r = c.args.task.asked.now.reading in
    let is = sym c.is_headed.ensures ∙ c.if-is_headed.true in
    subst (λ (h : Bool). (by : SearchesFor c.args.finder.now (lists_in r c.args.what.now)) → IfSome (g.R.Read.remaining c.args.reader.now) (λ text.
    IsInputReported (g.W.Write.contents c.args.writer.now.writer) (g.W.Write.contents c.report_below.new.writer) c.report_below.result
    (report_by r h c.args.task c.args.what.now c.args.outcome (patterns_by by) c.args.name.now text)
    (whole_report_by r h c.args.task c.args.what.now c.args.outcome (patterns_by by) c.args.name.now text)
    (body_count r c.args.what.now (patterns_by by) c.args.name.now text))) (sym is)
    (whole_reported (g.R.Read.remaining c.args.reader.now) c.deref.result.now (g.W.Write.contents c.args.writer.now.writer) (g.W.Write.contents c.report_below.new.writer) c.report_below.result
    (λ by text. report_by r true c.args.task c.args.what.now c.args.outcome (patterns_by by) c.args.name.now text)
    (λ by text. whole_report_by r true c.args.task c.args.what.now c.args.outcome (patterns_by by) c.args.name.now text)
    (λ by text. body_count r c.args.what.now (patterns_by by) c.args.name.now text)
    (same_as (g.R.Read.remaining c.args.reader.now) _ _ c.deref.ensures.value c.in-Ok.ensures.whole) c.report_below.ensures.written c.report_below.ensures.counted c.report_below.ensures.part)

pub returns-clause-reported : goal.returns-clause-reported
returns-clause-reported g c =
    let r = c.args.task.asked.now.reading in
    let is = sym c.is_headed.ensures ∙ c.if-is_headed.false in
    subst (λ (h : Bool). (by : SearchesFor c.args.finder.now (lists_in r c.args.what.now)) → IfSome (g.R.Read.remaining c.args.reader.now) (λ text.
    IsInputReported (g.W.Write.contents c.args.writer.now.writer) (g.W.Write.contents c.report_body.new.writer) c.report_body.result
    (report_by r h c.args.task c.args.what.now c.args.outcome (patterns_by by) c.args.name.now text)
    (whole_report_by r h c.args.task c.args.what.now c.args.outcome (patterns_by by) c.args.name.now text)
    (body_count r c.args.what.now (patterns_by by) c.args.name.now text))) (sym is)
    (whole_reported (g.R.Read.remaining c.args.reader.now) c.deref-2.result.now (g.W.Write.contents c.args.writer.now.writer) (g.W.Write.contents c.report_body.new.writer) c.report_body.result
    (λ by text. report_by r false c.args.task c.args.what.now c.args.outcome (patterns_by by) c.args.name.now text)
    (λ by text. whole_report_by r false c.args.task c.args.what.now c.args.outcome (patterns_by by) c.args.name.now text)
    (λ by text. body_count r c.args.what.now (patterns_by by) c.args.name.now text)
    (same_as (g.R.Read.remaining c.args.reader.now) _ _ c.deref-2.ensures.value c.in-Ok.ensures.whole) (rw (sym c.known.ensures) c.report_body.ensures.written) c.report_body.ensures.counted (rw (sym c.known.ensures) c.report_body.ensures.part))
