use Rattle.nfa_core.proofs.StepLemmas.{one_after}
use Rattle.std.specs.Bool.{nat_eq}
use Rattle.nfa_core.proofs.laws.walk_laws.walks_come_to_one_list.Goals as goal

pub returns : goal.returns
returns c = λ steps stack seen a b v w. one_after nat_eq steps v b w
