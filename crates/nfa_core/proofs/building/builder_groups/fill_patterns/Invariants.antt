use Rattle.std.proofs.Common.{◌≡◌, length, ◌+◌, ◌-◌}
use Rattle.search_types.specs.GroupFaults.{groups_in}
use Rattle.nfa_core.specs.BuilderStates.{up_to_pattern}
use Rattle.nfa_core.proofs.building.builder_groups.fill_patterns.Given as goal

abbrev pub invariant-loop-pattern : goal.invariant-loop-pattern
invariant-loop-pattern l = up_to_pattern (groups_in l.groups.items) l.pattern ≡ up_to_pattern (groups_in l.initial.groups.items) l.pattern

abbrev pub decreases-loop-pattern : goal.decreases-loop-pattern
decreases-loop-pattern l = l.pattern + 1 - length l.groups.items
