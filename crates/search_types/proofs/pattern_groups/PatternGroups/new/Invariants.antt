use Rattle.std.proofs.Common.{◌≡◌, ◌+◌, ◌≤◌, ◌++◌, None, length, drop}
use Rattle.search_core.specs.Index.{greatest_index}
use Rattle.search_types.specs.GroupFaults.{names_in, fault_after}
use Rattle.search_types.specs.GroupIndices.{FindsEach}
use Rattle.search_types.proofs.pattern_groups.PatternGroups.new.Given as goal

abbrev pub invariant-loop-name : goal.invariant-loop-name
invariant-loop-name l = record {
  indexed : FindsEach (names_in l.names.items) l.indices;
  in_range : length l.names.items ≤ greatest_index + 1;
  all : names_in l.names.items ++ names_in (drop l.name-index l.groups) ≡ names_in l.groups;
  sound : fault_after 0 (names_in l.names.items) (names_in (drop l.name-index l.groups)) ≡ None;
}
