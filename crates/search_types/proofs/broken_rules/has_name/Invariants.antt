use Rattle.std.proofs.Common.{◌≡◌, drop, is_some}
use Rattle.std.specs.List.{position}
use Rattle.search_types.specs.Groups.{is_named}
use Rattle.search_types.specs.GroupFaults.{names_in}
use Rattle.search_types.proofs.broken_rules.has_name.Given as goal

abbrev pub invariant-loop-group : goal.invariant-loop-group
invariant-loop-group l = is_some (position (is_named l.name) (names_in (drop l.group-index l.groups))) ≡ is_some
    (position (is_named l.name) (names_in l.groups))
