use Rattle.std.proofs.Common.{◌≡◌, ◌+◌, length, reverse}
use Rattle.nfa_core.specs.Reached.{AreBelow, GoesOn}
use Rattle.nfa_core.proofs.stack.next_fresh.Given as goal

abbrev pub invariant-loop-id : goal.invariant-loop-id
invariant-loop-id g l = record {
  names : g.S.NameSet.names l.set ≡ g.S.NameSet.names l.initial.set;
  bound : g.S.NameSet.bound l.set ≡ g.S.NameSet.bound l.initial.set;
  below : AreBelow (g.S.NameSet.bound l.initial.set) (reverse l.stack.items);
  walk : GoesOn (reverse l.initial.stack.items) (g.S.NameSet.names l.initial.set) (reverse l.stack.items) (g.S.NameSet.names l.set);
  cost : l.steps + length (reverse l.stack.items) ≡ l.initial.steps + length (reverse l.initial.stack.items);
}

abbrev pub decreases-loop-id : goal.decreases-loop-id
decreases-loop-id g l = length l.stack.items
