use Rattle.std.proofs.Common.{◌≡◌}
use Rattle.std.specs.Bool.{nat_eq}
use Rattle.std.specs.List.{list_any}
use Rattle.determinize_core.proofs.ids_of.has_id.Given as goal

abbrev pub invariant-loop-id : goal.invariant-loop-id
invariant-loop-id l = list_any (nat_eq l.wanted) l.fn.ids ≡ list_any (nat_eq l.wanted) l.id-iterator
