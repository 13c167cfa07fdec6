use Rattle.std.proofs.Common.{◌≡◌, map, drop}
use Rattle.std.specs.List.{list_any}
use Rattle.nfa_core.specs.NfaValue.{is_capture}
use Rattle.nfa_core.specs.States.{node_of}
use Rattle.nfa_core.proofs.nfa_facts.has_capture.Given as goal

abbrev pub invariant-loop-state : goal.invariant-loop-state
invariant-loop-state l = list_any is_capture (map node_of (drop l.state-index l.states)) ≡ list_any is_capture (map node_of l.states)
