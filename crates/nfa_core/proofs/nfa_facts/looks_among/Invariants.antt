use Rattle.std.proofs.Common.{◌≡◌, length, map, get_or}
use Rattle.std.specs.List.{fold}
use Rattle.look_core.specs.LookSets.{union_of}
use Rattle.nfa_core.specs.Nfa.{fail_node}
use Rattle.nfa_core.specs.NfaValue.{look_of, looks_of}
use Rattle.nfa_core.specs.Reached.{AreBelow}
use Rattle.nfa_core.specs.States.{node_of}
use Rattle.nfa_core.proofs.nfa_facts.looks_among.Given as goal

abbrev pub invariant-loop-id : goal.invariant-loop-id
invariant-loop-id l = record {
  below : AreBelow (length l.states) l.id-iterator;
  same : fold (λ s node. union_of s (look_of node)) l.looks (map (λ q. get_or (map node_of l.states) q fail_node) l.id-iterator) ≡ looks_of
      (map (λ q. get_or (map node_of l.states) q fail_node) l.set.names);
}
