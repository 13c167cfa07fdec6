use Rattle.std.proofs.Common.{◌≡◌, map, drop}
use Rattle.std.specs.List.{flat_map}
use Rattle.search_core.specs.Marks.{recorded}
use Rattle.nfa_core.specs.NfaValue.{ranges_apart_by}
use Rattle.nfa_core.specs.States.{node_of}
use Rattle.nfa_core.proofs.nfa_facts.class_set.Given as goal

abbrev pub invariant-loop-state : goal.invariant-loop-state
invariant-loop-state l = recorded l.set (flat_map (ranges_apart_by l.matcher.terminator) (map node_of (drop l.state-index l.states))) ≡
    recorded
    l.initial.set (flat_map (ranges_apart_by l.matcher.terminator) (map node_of l.states))
