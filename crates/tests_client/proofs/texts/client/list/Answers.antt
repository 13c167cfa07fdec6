use Rattle.std.proofs.Common.{◌∙◌}
use Rattle.regex_pair.specs.FindSteps.{finds_from}
use Rattle.regex_pair.proofs.ForCallers.{taken_so}
use Rattle.tests_client.proofs.texts.client.list.Goals as goal

pub loop-item-preserved : goal.loop-item-preserved
loop-item-preserved c =
    let step = rw c.in-Ok.is at c.in-Some.ensures.steps in
    let was = c.loop-item.invariant in (
      step.goes_on,
      step.same_regex ∙ was.1,
      step.same_reference ∙ was.2,
      taken_so c.args.re.now c.args.input c.loop-item.all.items _ (finds_from c.next.new.self) c.in-Ok.found
          (c.a_step_takes_one_more.ensures c.args.re.now c.args.input c.loop-item.all.items c.loop-item.item-iterator c.next.new.self
          c.in-Ok.found was.1 was.3 step)
          c.in_ok-push-in-Ok.ensures,
    )

pub returns-clause-whole : goal.returns-clause-whole
returns-clause-whole c = record {
  old = c.loop-item.item-iterator;
  new = c.next.new.self;
  regex = c.loop-item.invariant.1;
  taken = c.loop-item.invariant.3;
  over = c.in-None.ensures.steps;
}
