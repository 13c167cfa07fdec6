use Rattle.std.proofs.Common.{◌≡◌, map, take}
use Rattle.nfa_core.specs.Pasts.{name_in}
use Rattle.nfa_core.specs.Transitions.{range_of}
use Rattle.nfa_core.proofs.building.kept_states.rename_ranges.Given as goal

abbrev pub invariant-loop-trans : goal.invariant-loop-trans
invariant-loop-trans l = map range_of l.renamed.items ≡ map (λ r. (r.0, r.1, name_in l.names r.2))
    (map range_of (take l.trans-index l.list))
