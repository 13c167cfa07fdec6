use Rattle.std.proofs.Common.{◌≡◌, ◌+◌, ◌*◌, ◌<◌, ◌≤◌, ◌++◌, None, drop}
use Rattle.search_core.specs.Index.{greatest_index}
use Rattle.search_types.specs.Groups.{implicit_slot_len, explicit_slot_len, slot_len}
use Rattle.search_types.specs.GroupFaults.{slots_fault}
use Rattle.search_types.specs.GroupPlaces.{starts_from}
use Rattle.search_types.proofs.group_info.lay_out.Given as goal

abbrev pub invariant-loop-groups : goal.invariant-loop-groups
invariant-loop-groups l = record {
  fits : l.end ≤ (greatest_index + 1) * 2;
  small : 0 < l.groups-index → l.end ≤ greatest_index;
  starts : l.starts.items ++ starts_from l.end (drop l.groups-index l.patterns) ≡ starts_from (implicit_slot_len l.patterns) l.patterns;
  len : l.end + explicit_slot_len (drop l.groups-index l.patterns) ≡ slot_len l.patterns;
  sound : slots_fault l.groups-index l.end (drop l.groups-index l.patterns) ≡ None;
}
