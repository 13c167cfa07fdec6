use Rattle.std.proofs.Common.{◌≡◌, map, drop}
use Rattle.search_core.specs.Marks.{recorded}
use Rattle.nfa_core.specs.Transitions.{range_of}
use Rattle.nfa_core.proofs.nfa_facts.add_ranges.Given as goal

abbrev pub invariant-loop-transition : goal.invariant-loop-transition
invariant-loop-transition l = recorded l.set (map (λ r. (r.0, r.1)) (map range_of (drop l.transition-index l.transitions))) ≡ recorded
    l.initial.set (map (λ r. (r.0, r.1)) (map range_of l.transitions))
