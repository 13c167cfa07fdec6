use Rattle.std.proofs.Common.{◌≡◌, ◌+◌, ◌≤◌, drop}
use Rattle.search_core.specs.Index.{greatest_index}
use Rattle.search_types.specs.GroupFaults.{groups_in, names_fault}
use Rattle.search_types.proofs.broken_rules.broken_by_names.Given as goal

abbrev pub invariant-loop-index : goal.invariant-loop-index
invariant-loop-index l = record {
  in_range : l.index ≤ greatest_index + 1;
  fault : names_fault l.index (groups_in (drop l.index l.groups)) ≡ names_fault 0 (groups_in l.groups);
}
