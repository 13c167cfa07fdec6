use Rattle.nfa_core.proofs.StepLemmas.{fresh_on_stack}
use Rattle.std.specs.Bool.{nat_eq}
use Rattle.nfa_core.proofs.laws.walk_laws.walks_are_made_with_a_stack.Goals as goal

pub returns : goal.returns
returns c = λ steps x rest seen after absent v. fresh_on_stack nat_eq steps x rest seen after absent v
