use Rattle.std.proofs.Common.{◌≡◌, [], take, drop}
use Rattle.search_types.specs.GroupFaults.{names_in, fault_after}
use Rattle.search_types.proofs.broken_rules.broken_by_groups.Given as goal

abbrev pub invariant-loop-index : goal.invariant-loop-index
invariant-loop-index l = fault_after l.pattern (names_in (take l.index l.names))
    (names_in (drop l.index l.names)) ≡ fault_after l.pattern [] (names_in l.names)
