use Rattle.std.proofs.Common.{◌≡◌, length, map, get_or}
use Rattle.std.specs.List.{list_any}
use Rattle.nfa_core.specs.Nfa.{fail_node}
use Rattle.nfa_core.specs.NfaValue.{is_match}
use Rattle.nfa_core.specs.Reached.{AreBelow}
use Rattle.nfa_core.specs.States.{node_of}
use Rattle.nfa_core.proofs.nfa_facts.has_match.Given as goal

abbrev pub invariant-loop-id : goal.invariant-loop-id
invariant-loop-id l = record {
  below : AreBelow (length l.states) l.id-iterator;
  same : list_any (λ q. is_match (get_or (map node_of l.states) q fail_node)) l.id-iterator ≡ list_any
      (λ q. is_match (get_or (map node_of l.states) q fail_node)) l.set.names;
}
