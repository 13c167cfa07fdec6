use Rattle.std.proofs.Common.{inr, ◌∙◌}
use Rattle.regex_pair.specs.FindSteps.{caches_of, finds_from}
use Rattle.regex_pair.proofs.ForCallers.{taken_so}
use Rattle.growing_regex.proofs.listing.list.Goals as goal

pub loop-item-preserved : goal.loop-item-preserved
loop-item-preserved c =
    let step = rw c.in-Ok.is at c.in-Some.ensures.steps in
    let was = c.loop-item.invariant in (
      step.goes_on,
      step.same_regex ∙ was.1,
      step.same_reference ∙ was.2,
      taken_so c.args.re.now c.args.input c.loop-item.all.items _ (finds_from c.next.new.self) c.in-Ok.found
          (c.a_step_takes_one_more.ensures c.args.re.now c.args.input c.loop-item.all.items c.loop-item.item-iterator c.next.new.self
          c.in-Ok.found was.1 was.3 step)
          c.in_ok-push-in-Ok.ensures,
    )

pub returns-in-Err-clause-refused : goal.returns-in-Err-clause-refused
returns-in-Err-clause-refused c =
    let step = rw c.in-Err.is at c.in-Some.ensures.steps in
    let was = c.loop-item.invariant in
    let refused = c.a_step_is_refused_as_a_search_is.ensures c.args.re.now c.args.input c.loop-item.all.items c.loop-item.item-iterator
    c.next.new.self c.in-Err.e was.1 was.3 step in
    inr (refused.0, caches_of c.next.new.self, refused.3)

pub returns-clause-whole : goal.returns-clause-whole
returns-clause-whole c = record {
  old = c.loop-item.item-iterator;
  new = c.next.new.self;
  regex = c.loop-item.invariant.1;
  taken = c.loop-item.invariant.3;
  over = c.in-None.ensures.steps;
}
