use Rattle.std.proofs.Common.{◌≡◌, ◌+◌, ◌≤◌, map, drop, min}
use Rattle.std.specs.List.{sum_by}
use Rattle.nfa_core.specs.NfaValue.{memory_of}
use Rattle.nfa_core.specs.States.{node_of, node_memory}
use Rattle.nfa_core.proofs.nfa_facts.memory.Given as goal

abbrev pub invariant-loop-state : goal.invariant-loop-state
invariant-loop-state l = (l.memory ≤ 18446744073709551615) × (min (l.memory + sum_by node_memory
    (map node_of (drop l.state-index l.states))) 18446744073709551615 ≡ memory_of (map node_of l.states))
