use Rattle.std.proofs.Common.{◌≡◌, drop}
use Rattle.std.specs.Prelude.{nat_lt}
use Rattle.std.specs.List.{list_all}
use Rattle.nfa_core.proofs.building.builder_checks.are_below.Given as goal

abbrev pub invariant-loop-name : goal.invariant-loop-name
invariant-loop-name l = list_all (λ q. nat_lt q l.len) (drop l.name-index l.names) ≡ list_all (λ q. nat_lt q l.len) l.names
