use Rattle.std.proofs.Common.{◌≡◌, map, take}
use Rattle.nfa_core.specs.States.{node_of}
use Rattle.nfa_core.proofs.nfa.clone_states.Given as goal

abbrev pub invariant-loop-state : goal.invariant-loop-state
invariant-loop-state l = map node_of l.copies.items ≡ map node_of (take l.state-index l.states)
