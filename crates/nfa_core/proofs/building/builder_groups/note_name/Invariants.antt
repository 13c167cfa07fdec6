use Rattle.std.proofs.Common.{◌≡◌, ◌≤◌, length, ◌-◌, None}
use Rattle.std.specs.Option.{option_map}
use Rattle.std.specs.String.{string_bytes}
use Rattle.search_types.specs.GroupFaults.{names_in}
use Rattle.nfa_core.specs.BuilderStates.{filled}
use Rattle.nfa_core.proofs.building.builder_groups.note_name.Given as goal

abbrev pub invariant-loop-index : goal.invariant-loop-index
invariant-loop-index l = record {
  most : length l.names.items ≤ l.index;
  same : filled None (names_in l.names.items) l.index ≡ filled None (names_in l.initial.names.items) l.index;
  kept : option_map string_bytes l.name ≡ option_map string_bytes l.initial.name;
}

abbrev pub decreases-loop-index : goal.decreases-loop-index
decreases-loop-index l = l.index - length l.names.items
