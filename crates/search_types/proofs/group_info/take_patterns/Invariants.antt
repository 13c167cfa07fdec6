use Rattle.std.proofs.Common.{◌≡◌, ◌++◌, length, drop, None}
use Rattle.search_types.specs.GroupFaults.{groups_in, names_fault}
use Rattle.search_types.proofs.group_info.take_patterns.Given as goal

abbrev pub invariant-loop-names : goal.invariant-loop-names
invariant-loop-names l = record {
  all : l.patterns.items ++ groups_in (drop l.names-index l.groups) ≡ groups_in l.groups;
  sound : names_fault (length l.patterns.items) (groups_in (drop l.names-index l.groups)) ≡ None;
}
