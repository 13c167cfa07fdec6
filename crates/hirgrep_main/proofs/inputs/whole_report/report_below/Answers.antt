use Rattle.std.proofs.Common.{◌≡◌, ◌∙◌, ◌++◌, ℕ, List, false, ap, subst, take}
use Rattle.std.specs.Io.KnownBytes.{Appends}
use Rattle.grep_core.specs.Headings.{heading, under}
use Rattle.grep_core.specs.declared.separator_state.SeparatorState.TheVariants.{NonePrinted}
use Rattle.hirgrep_main.specs.Tasks.{body, patterns_by}
use Rattle.hirgrep_main.proofs.ReportLemmas.{part_under}
use Rattle.hirgrep_main.proofs.inputs.whole_report.report_below.Goals as goal

pub returns-clause-part : goal.returns-clause-part
returns-clause-part g c by =
    let text : List ℕ = body c.args.task.asked.now.reading c.args.what.now (patterns_by by) c.args.name.now false NonePrinted c.args.text.now in
    let head : List ℕ = heading c.args.what.now c.args.name.now c.args.task.with_name c.args.printed in
    let is : c.in-Ok-text_under.all.items ≡ under head text = c.in-Ok-text_under.ensures
    ∙ ap (under head) (c.deref.ensures.value ∙ c.in-Ok.ensures.written by ∙ ap (λ (xs : List ℕ). xs ++ text) c.new-body.ensures.items) in
    part_under (g.W.Write.contents c.args.writer.now) (g.W.Write.contents c.write_out.new.writer) head text
    (subst (λ (xs : List ℕ). (n : ℕ) × Appends (g.W.Write.contents c.args.writer.now) (g.W.Write.contents c.write_out.new.writer) (take n xs))
    (c.deref-2.ensures.value ∙ is) c.in-Err-write_out.ensures.part)
