use Rattle.nfa_core.proofs.ClassLemmas.{bytes_alike}
use Rattle.nfa_core.proofs.laws.nfa_laws.bytes_of_one_class_are_alike.Goals as goal

pub returns : goal.returns
returns c = bytes_alike
