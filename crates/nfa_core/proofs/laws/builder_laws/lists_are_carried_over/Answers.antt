use Rattle.nfa_core.proofs.RenamingRuns.{same_lists}
use Rattle.nfa_core.proofs.laws.builder_laws.lists_are_carried_over.Goals as goal

pub returns : goal.returns
returns c = λ b x y t q i l can here walk. same_lists b x y can t q i l here walk
