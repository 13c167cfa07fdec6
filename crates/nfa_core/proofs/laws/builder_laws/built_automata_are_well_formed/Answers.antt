use Rattle.nfa_core.proofs.RenamingEnds.{name_inside}
use Rattle.nfa_core.proofs.RenamingEnds.{is_well_formed}
use Rattle.nfa_core.proofs.laws.builder_laws.built_automata_are_well_formed.Goals as goal

pub returns : goal.returns
returns c = record { inside = λ b x y q can inside. name_inside b x y can q inside; formed = is_well_formed }
