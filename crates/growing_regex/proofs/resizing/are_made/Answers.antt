use Rattle.std.proofs.Common.{subst}
use Rattle.lazy_dfa.specs.Dfas.{IsDfa}
use Rattle.growing_regex.proofs.resizing.are_made.Goals as goal

pub returns-clause-forward : goal.returns-clause-forward
returns-clause-forward c = subst IsDfa c.forward.ensures.value c.is_made.ensures

pub returns-clause-reverse : goal.returns-clause-reverse
returns-clause-reverse c = subst IsDfa c.reverse.ensures.value c.is_made-2.ensures
