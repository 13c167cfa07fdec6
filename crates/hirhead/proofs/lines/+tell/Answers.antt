use Rattle.std.proofs.Common.{ℕ, sym, ap, ◌∙◌, arith, string_bytes, length}
use Rattle.hir_core.specs.Tree.{concat, alternation}
use Rattle.hir_core.specs.Node.{node}
use Rattle.hir_core.specs.Weight.{weight}
use Rattle.hir_core.proofs.ForCallers.{weight_in_concat, weight_of_either}
use Rattle.hirhead.specs.HasLines.{IsUnfit, AreUnfit}
use Rattle.hirhead.proofs.TellLemmas.{concat_text, alternation_text, concat_fits, alternation_fits, no_level, handed, many_in_concat}
use Rattle.hirhead.proofs.TellLemmas.{many_in_alternation}
use Rattle.hirhead.proofs.TellLemmas.{part_in_concat, part_in_alternation, one_unfit}
use Rattle.hirhead.proofs.lines.+tell.Goals as goal

pub report_parts-tell-requires : goal.report_parts-tell-requires
report_parts-tell-requires t c = (
  omega (arith, weight_in_concat c.args.subs.now c.loop-sub.sub-index c.sub-item.result c.loop-sub-test.true, ap weight c.sub-item.is),
  tt,
)

pub tell-report_parts-requires-in-Alternation : goal.tell-report_parts-requires-in-Alternation
tell-report_parts-requires-in-Alternation t c =
    let is = ap alternation c.deref-in-Alternation-2.ensures.value ∙ sym (ap node c.in-Alternation.is) ∙ c.kind.ensures.is in
    (omega (arith, weight_of_either c.deref-in-Alternation-2.result.now, ap weight is), tt)

pub tell-returns-then-levels-eq0-clause-refused : goal.tell-returns-then-levels-eq0-clause-refused
tell-returns-then-levels-eq0-clause-refused t c = no_level c.args.levels c.args.x.now c.if-levels-eq0.true

pub tell-returns-in_err-count-in-Concat-clause-refused : goal.tell-returns-in_err-count-in-Concat-clause-refused
tell-returns-in_err-count-in-Concat-clause-refused t c =
    let is = ap concat c.deref-in-Concat.ensures.value ∙ sym (ap node c.in-Concat.is) ∙ c.kind.ensures.is in
    handed c.from_residual-in_err-count-in-Concat.result (IsUnfit c.args.levels c.args.x.now) c.in_err-count-in-Concat.field-0.0
    c.from_residual-in_err-count-in-Concat.ensures.1
    (many_in_concat c.deref-in-Concat.result.now c.args.x.now c.args.levels c.in_err-count-in-Concat.field-0.0 is
    c.in_err-count-in-Concat.ensures.refused.0 c.in_err-count-in-Concat.ensures.refused.1)

pub tell-returns-in_err-report_parts-in-Concat-clause-refused : goal.tell-returns-in_err-report_parts-in-Concat-clause-refused
tell-returns-in_err-report_parts-in-Concat-clause-refused t c =
    let is = ap concat c.deref-in-Concat-2.ensures.value ∙ sym (ap node c.in-Concat.is) ∙ c.kind.ensures.is in
    let unfit = c.in_err-report_parts-in-Concat.ensures.refused in
    handed c.from_residual-in_err-report_parts-in-Concat.result (IsUnfit c.args.levels c.args.x.now)
    c.in_err-report_parts-in-Concat.field-0.0
    c.from_residual-in_err-report_parts-in-Concat.ensures.1
    (part_in_concat c.deref-in-Concat-2.result.now c.args.x.now c.args.levels unfit.0 c.in_err-report_parts-in-Concat.field-0.0 is
    c.if-levels-eq0.false (omega (arith, c.ranges.levels)) unfit.1)

pub tell-returns-in_err-count-in-Alternation-clause-refused : goal.tell-returns-in_err-count-in-Alternation-clause-refused
tell-returns-in_err-count-in-Alternation-clause-refused t c =
    let is = ap alternation c.deref-in-Alternation.ensures.value ∙ sym (ap node c.in-Alternation.is) ∙ c.kind.ensures.is in
    handed c.from_residual-in_err-count-in-Alternation.result (IsUnfit c.args.levels c.args.x.now) c.in_err-count-in-Alternation.field-0.0
    c.from_residual-in_err-count-in-Alternation.ensures.1
    (many_in_alternation c.deref-in-Alternation.result.now c.args.x.now c.args.levels c.in_err-count-in-Alternation.field-0.0 is
    c.in_err-count-in-Alternation.ensures.refused.0 c.in_err-count-in-Alternation.ensures.refused.1)

pub tell-returns-in_err-report_parts-in-Alternation-clause-refused : goal.tell-returns-in_err-report_parts-in-Alternation-clause-refused
tell-returns-in_err-report_parts-in-Alternation-clause-refused t c =
    let is = ap alternation c.deref-in-Alternation-2.ensures.value ∙ sym (ap node c.in-Alternation.is) ∙ c.kind.ensures.is in
    let unfit = c.in_err-report_parts-in-Alternation.ensures.refused in
    handed c.from_residual-in_err-report_parts-in-Alternation.result
    (IsUnfit c.args.levels c.args.x.now) c.in_err-report_parts-in-Alternation.field-0.0
    c.from_residual-in_err-report_parts-in-Alternation.ensures.1
    (part_in_alternation c.deref-in-Alternation-2.result.now c.args.x.now c.args.levels unfit.0
    c.in_err-report_parts-in-Alternation.field-0.0 is
    c.if-levels-eq0.false (omega (arith, c.ranges.levels)) unfit.1)

pub tell-returns-in_ok-report_number-in-Concat-clause-lines : goal.tell-returns-in_ok-report_number-in-Concat-clause-lines
tell-returns-in_ok-report_number-in-Concat-clause-lines t c =
    let is = ap concat c.deref-in-Concat-2.ensures.value ∙ sym (ap node c.in-Concat.is) ∙ c.kind.ensures.is in
    let count = c.in_ok-count-in-Concat.count in
    let counted = c.in_ok-count-in-Concat.ensures.count ∙ ap length c.deref-in-Concat.ensures.value
    ∙ sym (ap length c.deref-in-Concat-2.ensures.value) in
    concat_text c.deref-in-Concat-2.result.now c.args.x.now count (string_bytes c.args.text.now) (string_bytes c.report_parts.new.text)
    (string_bytes c.report_number.new.text) is counted c.in_ok-report_parts-in-Concat.ensures.lines c.in_ok-report_number-in-Concat.ensures

pub tell-returns-in_ok-report_number-in-Concat-clause-fits : goal.tell-returns-in_ok-report_number-in-Concat-clause-fits
tell-returns-in_ok-report_number-in-Concat-clause-fits t c =
    let is = ap concat c.deref-in-Concat-2.ensures.value ∙ sym (ap node c.in-Concat.is) ∙ c.kind.ensures.is in
    let count = c.in_ok-count-in-Concat.count in
    let counted = c.in_ok-count-in-Concat.ensures.count ∙ ap length c.deref-in-Concat.ensures.value
    ∙ sym (ap length c.deref-in-Concat-2.ensures.value) in
    concat_fits c.deref-in-Concat-2.result.now c.args.x.now c.args.levels count is c.if-levels-eq0.false counted
    c.in_ok-count-in-Concat.ensures.few
    c.in_ok-report_parts-in-Concat.ensures.fits

pub tell-returns-in_ok-report_number-in-Alternation-clause-lines : goal.tell-returns-in_ok-report_number-in-Alternation-clause-lines
tell-returns-in_ok-report_number-in-Alternation-clause-lines t c =
    let is = ap alternation c.deref-in-Alternation-2.ensures.value ∙ sym (ap node c.in-Alternation.is) ∙ c.kind.ensures.is in
    let count = c.in_ok-count-in-Alternation.count in
    let counted = c.in_ok-count-in-Alternation.ensures.count ∙ ap length c.deref-in-Alternation.ensures.value
    ∙ sym (ap length c.deref-in-Alternation-2.ensures.value) in
    alternation_text c.deref-in-Alternation-2.result.now c.args.x.now count (string_bytes c.args.text.now)
    (string_bytes c.report_parts-in-Alternation.new.text)
    (string_bytes c.report_number-in-Alternation.new.text) is counted c.in_ok-report_parts-in-Alternation.ensures.lines
    c.in_ok-report_number-in-Alternation.ensures

pub tell-returns-in_ok-report_number-in-Alternation-clause-fits : goal.tell-returns-in_ok-report_number-in-Alternation-clause-fits
tell-returns-in_ok-report_number-in-Alternation-clause-fits t c =
    let is = ap alternation c.deref-in-Alternation-2.ensures.value ∙ sym (ap node c.in-Alternation.is) ∙ c.kind.ensures.is in
    let count = c.in_ok-count-in-Alternation.count in
    let counted = c.in_ok-count-in-Alternation.ensures.count ∙ ap length c.deref-in-Alternation.ensures.value
    ∙ sym (ap length c.deref-in-Alternation-2.ensures.value) in
    alternation_fits c.deref-in-Alternation-2.result.now c.args.x.now c.args.levels count is c.if-levels-eq0.false counted
    c.in_ok-count-in-Alternation.ensures.few
    c.in_ok-report_parts-in-Alternation.ensures.fits

pub report_parts-returns-in_err-tell-clause-refused : goal.report_parts-returns-in_err-tell-clause-refused
report_parts-returns-in_err-tell-clause-refused t c =
    handed c.from_residual.result (λ e. (n : ℕ) × AreUnfit c.args.levels c.args.subs.now n e)
    c.in_err-tell.field-0.0 c.from_residual.ensures.1 (
      c.loop-sub.sub-index,
      one_unfit c.args.levels c.args.subs.now c.loop-sub.sub-index c.sub-item.result c.in_err-tell.field-0.0 c.loop-sub-test.true
          c.sub-item.is c.in_err-tell.ensures.refused,
    )
