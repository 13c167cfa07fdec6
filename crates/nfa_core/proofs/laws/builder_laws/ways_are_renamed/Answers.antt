use Rattle.nfa_core.proofs.RenamingAutomaton.{state_ways}
use Rattle.nfa_core.proofs.RenamingAutomaton.{state_match}
use Rattle.nfa_core.proofs.laws.builder_laws.ways_are_renamed.Goals as goal

pub returns : goal.returns
returns c = record { leads = state_ways; matches = state_match }
