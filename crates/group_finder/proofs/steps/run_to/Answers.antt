use Rattle.std.proofs.Common.{◌+◌, ◌-◌, arith, sym, ◌∙◌}
use Rattle.group_finder.proofs.StepLemmas.{run_goes, run_none, run_stops}
use Rattle.group_finder.proofs.steps.run_to.Goals as goal

pub returns-then-not-contains-clause-is : goal.returns-then-not-contains-clause-is
returns-then-not-contains-clause-is c =
    sym (c.loop-at.invariant
    ∙ run_stops c.args.set.now c.args.haystack.now (c.args.end - c.loop-at.at) (c.args.end - (c.loop-at.at + 1)) c.loop-at.at
    (omega (arith, c.loop-at-test.true)) (sym c.contains.ensures ∙ c.if-not-contains.true))

pub loop-at-preserved : goal.loop-at-preserved
loop-at-preserved c =
    c.loop-at.invariant
    ∙ run_goes c.args.set.now c.args.haystack.now (c.args.end - c.loop-at.at) (c.args.end - (c.loop-at.at + 1)) c.loop-at.at
    (omega (arith, c.loop-at-test.true)) (sym c.contains.ensures ∙ c.if-not-contains.false)

pub returns-clause-is : goal.returns-clause-is
returns-clause-is c =
    sym (c.loop-at.invariant
    ∙ run_none c.args.set.now c.args.haystack.now (c.args.end - c.loop-at.at) c.loop-at.at (omega (arith, c.loop-at-test.false))
    ∙ omega (arith, c.loop-at-test.false, c.loop-at.auto.at-end))
