use Rattle.nfa_core.proofs.OverLemmas.{first_same}
use Rattle.nfa_core.proofs.laws.text_laws.first_ends_depend_on_what_was_read.Goals as goal

pub returns : goal.returns
returns c = first_same
