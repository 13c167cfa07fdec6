use Rattle.std.proofs.Common.{◌∙◌, ℕ, ap, arith, subst, sym}
use Rattle.text_report.specs.LineSpans.{line_of}
use Rattle.text_report.specs.TextProgress.{matches_of_task}
use Rattle.text_report.specs.Touching.{AreBefore, has_match_of}
use Rattle.text_report.specs.declared.text_lines.TextPosition.{TextPosition}
use Rattle.text_report.proofs.ReportLemmas.{reports_one}
use Rattle.text_report.proofs.reporting.report_next.Goals as goal

pub position_after-requires : goal.position_after-requires
position_after-requires c = let at = c.in-Some.ensures.some in omega (arith, at.within, c.ranges.task)

pub returns-clause-goes_on : goal.returns-clause-goes_on
returns-clause-goes_on c order before =
    let t = c.args.task in
    let seen = c.in-Some.seen in
    let next = c.in_ok-progress.ensures in
    let far : AreBefore t.found.now seen.first seen.line.start = c.in-Some.ensures.first before in
    let has = c.in-Some.ensures.has order before ∙ ap (λ b. has_match_of b (matches_of_task t) (line_of t.text.now seen.line)) c.by_starts-begun.ensures in
    reports_one t c.args.progress.now (record { at = c.in_ok-progress.field-0; telling = c.report_seen.new.telling }) seen.line
    c.args.out.now.items c.report_seen.new.out.items c.in-Some.ensures.some (ap (λ (q : TextPosition). q.number) next)
    (ap (λ (q : TextPosition). q.place) next)
    (subst (λ (k : ℕ). AreBefore t.found.now k seen.line.start) (sym (ap (λ (q : TextPosition). q.first) next)) far)
    (c.in_ok-report_seen.ensures.goes_on order far has) (c.in_ok-report_seen.ensures.counts has)
