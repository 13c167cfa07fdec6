use Rattle.nfa_core.proofs.EndsLemmas.{read_forward}
use Rattle.nfa_core.proofs.EndsLemmas.{read_reverse}
use Rattle.nfa_core.proofs.laws.run_laws.whole_texts_are_read.Goals as goal

pub returns : goal.returns
returns c = record { is_forward = read_forward; is_reverse = read_reverse }
