use Rattle.nfa_core.proofs.HereLemmas.{none_here}
use Rattle.nfa_core.proofs.laws.text_laws.no_run_is_empty.Goals as goal

pub returns : goal.returns
returns c = λ a t i q e sound none start pair h. none_here a t sound none i q start pair e h
