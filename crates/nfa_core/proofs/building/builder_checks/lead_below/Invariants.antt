use Rattle.std.proofs.Common.{◌≡◌, drop, map}
use Rattle.std.specs.Prelude.{nat_lt}
use Rattle.std.specs.List.{list_all}
use Rattle.nfa_core.specs.Transitions.{range_of}
use Rattle.nfa_core.proofs.building.builder_checks.lead_below.Given as goal

abbrev pub invariant-loop-transition : goal.invariant-loop-transition
invariant-loop-transition l = list_all (λ q. nat_lt q l.len) (map (λ r. r.2) (map range_of (drop l.transition-index l.transitions))) ≡
    list_all (λ q. nat_lt q l.len) (map (λ r. r.2) (map range_of l.transitions))
