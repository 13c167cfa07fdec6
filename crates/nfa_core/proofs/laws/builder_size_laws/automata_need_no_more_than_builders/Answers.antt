use Rattle.nfa_core.proofs.SizeLemmas.{smaller}
use Rattle.nfa_core.proofs.laws.builder_size_laws.automata_need_no_more_than_builders.Goals as goal

pub returns : goal.returns
returns c = smaller
