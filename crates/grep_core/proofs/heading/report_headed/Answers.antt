use Rattle.std.proofs.Common.{◌∙◌, ap, false, sym}
use Rattle.grep_core.specs.declared.separator_state.SeparatorState.TheVariants.{NonePrinted}
use Rattle.grep_core.specs.Headings.{heading}
use Rattle.grep_core.specs.Report.{report}
use Rattle.line_search.specs.Searchers.{found_by}
use Rattle.grep_core.proofs.HeadingLemmas.{begun_all, begun_part, begun_under, if_known}
use Rattle.grep_core.proofs.heading.report_headed.Goals as goal

pub returns-in-Err-report_input-clause-fault : goal.returns-in-Err-report_input-clause-fault
returns-in-Err-report_input-clause-fault g c by =
    if_known (g.R.Read.remaining c.args.reader.now) _ _
    (λ text part.
    begun_part _ _ _ (heading c.args.what.now c.args.name.now c.args.with_name c.args.printed) c.begin.new.self.heading.items
    c.report_input.new.writer.heading.items (report c.args.what.now (found_by by) c.args.name.now false NonePrinted text)
    c.begin.new.self.done c.report_input.new.writer.done 0 c.begin.new.self.left c.report_input.new.writer.left
    (ap g.W.Write.contents c.begin.ensures.writer) (ap (λ v. v.items) c.begin.ensures.heading ∙ c.in-Ok.ensures) c.begin.ensures.done
    part.0 part.1)
    (c.in-Err-report_input.ensures.fault by)

pub returns-then-is_whole-clause-reported : goal.returns-then-is_whole-clause-reported
returns-then-is_whole-clause-reported g c by =
    if_known (g.R.Read.remaining c.args.reader.now) _ _
    (λ text whole.
    begun_under _ _ _ (heading c.args.what.now c.args.name.now c.args.with_name c.args.printed) c.begin.new.self.heading.items
    c.report_input.new.writer.heading.items (report c.args.what.now (found_by by) c.args.name.now false NonePrinted text)
    c.begin.new.self.done c.report_input.new.writer.done 0xFFFF_FFFF_FFFF_FFFF c.begin.new.self.left c.report_input.new.writer.left
    (ap g.W.Write.contents c.begin.ensures.writer) (ap (λ v. v.items) c.begin.ensures.heading ∙ c.in-Ok.ensures) c.begin.ensures.done
    c.begin.ensures.left whole (sym c.is_whole.ensures ∙ c.if-is_whole.true))
    (c.in-Ok-report_input.ensures.reported by)

pub returns-clause-fault : goal.returns-clause-fault
returns-clause-fault g c by =
    if_known (g.R.Read.remaining c.args.reader.now) _ _
    (λ text whole.
    begun_all _ _ _ (heading c.args.what.now c.args.name.now c.args.with_name c.args.printed) c.begin.new.self.heading.items
    c.report_input.new.writer.heading.items (report c.args.what.now (found_by by) c.args.name.now false NonePrinted text)
    c.begin.new.self.done c.report_input.new.writer.done 0 c.begin.new.self.left c.report_input.new.writer.left
    (ap g.W.Write.contents c.begin.ensures.writer) (ap (λ v. v.items) c.begin.ensures.heading ∙ c.in-Ok.ensures) c.begin.ensures.done
    whole)
    (c.in-Ok-report_input.ensures.reported by)
