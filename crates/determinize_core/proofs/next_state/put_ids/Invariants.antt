use Rattle.std.proofs.Common.{◌≡◌, ◌+◌, length}
use Rattle.std.specs.Bool.{nat_eq}
use Rattle.nfa_core.specs.Reached.{AreBelow}
use Rattle.nfa_core.specs.Walks.{join, distinct}
use Rattle.determinize_core.proofs.next_state.put_ids.Given as goal

abbrev pub invariant-loop-id : goal.invariant-loop-id
invariant-loop-id g l = record {
  names : join nat_eq (g.S.NameSet.names l.set) l.id-iterator ≡ distinct nat_eq l.state.ids;
  below : AreBelow (g.S.NameSet.bound l.initial.set) l.id-iterator;
  bound : g.S.NameSet.bound l.set ≡ g.S.NameSet.bound l.initial.set;
  cost : l.steps + length l.id-iterator ≡ l.initial.steps + length l.state.ids;
}
