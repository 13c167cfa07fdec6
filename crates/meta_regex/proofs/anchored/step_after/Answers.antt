use Rattle.meta_regex.proofs.StartLemmas.{none_at_end}
use Rattle.meta_regex.proofs.anchored.step_after.Goals as goal

pub returns-then-start-haystack : goal.returns-then-start-haystack
returns-then-start-haystack c = λ config texts loops none. record {
  step = none_at_end config texts c.args.haystack.now c.args.start c.if-start-haystack.true none;
  preferred = λ on. tt;
}
