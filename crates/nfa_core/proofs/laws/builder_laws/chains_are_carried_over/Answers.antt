use Rattle.nfa_core.proofs.RenamingRuns.{chains_forth}
use Rattle.nfa_core.proofs.RenamingRuns.{chains_back}
use Rattle.nfa_core.proofs.laws.builder_laws.chains_are_carried_over.Goals as goal

pub returns : goal.returns
returns c = record {
  forth = λ b x y t q i r e can here chain is. chains_forth b x y can t q i r e here chain is;
  back = λ b x y t q i s e can here chain is. chains_back b x y can t q i s e here chain is;
}
