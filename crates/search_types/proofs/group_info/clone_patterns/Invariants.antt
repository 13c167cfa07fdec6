use Rattle.std.proofs.Common.{◌≡◌, ◌++◌, drop}
use Rattle.search_types.proofs.group_info.clone_patterns.Given as goal

abbrev pub invariant-loop-groups : goal.invariant-loop-groups
invariant-loop-groups l = l.copies.items ++ drop l.groups-index l.patterns ≡ l.patterns
