use Rattle.std.proofs.Common.{◌≡◌, nat_lt}
use Rattle.std.specs.List.{list_all}
use Rattle.determinize_core.proofs.ids_of.are_below.Given as goal

abbrev pub invariant-loop-id : goal.invariant-loop-id
invariant-loop-id l = list_all (λ q. nat_lt q l.bound) l.fn.ids ≡ list_all (λ q. nat_lt q l.bound) l.id-iterator
