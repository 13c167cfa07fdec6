use Rattle.nfa_core.proofs.ReadAlikeLemmas.{alike_by_looks, alike_forward}
use Rattle.nfa_core.proofs.laws.text_laws.texts_are_alike_by_the_looks_of_states.Goals as goal

pub returns-clause-either : goal.returns-clause-either
returns-clause-either c = alike_by_looks

pub returns-clause-is_forward : goal.returns-clause-is_forward
returns-clause-is_forward c = alike_forward
