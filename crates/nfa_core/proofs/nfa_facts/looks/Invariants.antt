use Rattle.std.proofs.Common.{◌≡◌, map, drop}
use Rattle.std.specs.List.{fold}
use Rattle.look_core.specs.LookSets.{union_of}
use Rattle.nfa_core.specs.NfaValue.{look_of, looks_of}
use Rattle.nfa_core.specs.States.{node_of}
use Rattle.nfa_core.proofs.nfa_facts.looks.Given as goal

abbrev pub invariant-loop-state : goal.invariant-loop-state
invariant-loop-state l = fold (λ s node. union_of s (look_of node)) l.looks (map node_of (drop l.state-index l.states)) ≡ looks_of
    (map node_of l.states)
