use Rattle.std.proofs.Common.{List, ap, sym, ◌∙◌}
use Rattle.std.proofs.lemmas.List.{nil_from_length}
use Rattle.group_finder.specs.declared.steps.Step.{Step}
use Rattle.group_finder.specs.Layouts.{steps_write, written}
use Rattle.group_finder.proofs.StepLemmas.{none_left, one_passed, one_saved}
use Rattle.group_finder.proofs.steps.walk.Goals as goal

pub loop-step-preserved-in-Some-slot_of : goal.loop-step-preserved-in-Some-slot_of
loop-step-preserved-in-Some-slot_of c = (
  c.loop-step.invariant.0,
  one_saved c.args.haystack.now c.args.end c.in-Some.step.now c.in-Some.others.now c.loop-step.at c.in-Some-slot_of.slot c.loop-step.slots
      c.save.new.slots _ (sym c.slot_of.ensures ∙ c.in-Some-slot_of.is) c.save.ensures
      (ap (λ (ss : List Step). written (steps_write c.args.haystack.now c.args.end ss c.loop-step.at) c.loop-step.slots)
      (sym c.in-Some.ensures.cases.0) ∙ c.loop-step.invariant.1),
)

pub loop-step-preserved : goal.loop-step-preserved
loop-step-preserved c = (
  c.after-at.ensures.within,
  one_passed c.args.haystack.now c.args.end c.in-Some.step.now c.in-Some.others.now c.loop-step.at c.after-at.result c.loop-step.slots _
      (sym c.slot_of.ensures ∙ c.in-None.is) c.after-at.ensures.is
      (ap (λ (ss : List Step). written (steps_write c.args.haystack.now c.args.end ss c.loop-step.at) c.loop-step.slots)
      (sym c.in-Some.ensures.cases.0) ∙ c.loop-step.invariant.1),
)

pub returns : goal.returns
returns c =
    sym (none_left c.args.haystack.now c.args.end c.loop-step.left.now c.loop-step.at c.loop-step.slots
    (nil_from_length c.loop-step.left.now c.in_default.ensures.cases)) ∙ c.loop-step.invariant.1
