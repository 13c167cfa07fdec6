use Rattle.std.proofs.Common.{◌≡◌, ◌+◌, ◌*◌, ◌≤◌, drop}
use Rattle.search_core.specs.Index.{greatest_index}
use Rattle.search_types.specs.Groups.{implicit_slot_len}
use Rattle.search_types.specs.GroupFaults.{groups_in, slots_fault}
use Rattle.search_types.proofs.broken_rules.broken_by_slots.Given as goal

abbrev pub invariant-loop-index : goal.invariant-loop-index
invariant-loop-index l = record {
  fits : l.end ≤ (greatest_index + 1) * 2;
  fault : slots_fault l.index l.end (groups_in (drop l.index l.groups)) ≡ slots_fault 0 (implicit_slot_len (groups_in l.groups))
      (groups_in l.groups);
}
