use Rattle.std.proofs.Common.{◌≡◌, ◌+◌, ℕ}
use Rattle.determinize_core.specs.Closing.{VisitsLeaves}
use Rattle.determinize_core.proofs.closure.meet_leaves.Given as goal

abbrev pub invariant-loop-k : goal.invariant-loop-k
invariant-loop-k g l = record {
  passes : (looks : ℕ) → VisitsLeaves l.nfa.automaton looks l.ids l.k (g.S.NameSet.names l.initial.set) (g.S.NameSet.names l.set);
  bound : g.S.NameSet.bound l.set ≡ g.S.NameSet.bound l.initial.set;
  cost : l.steps ≡ l.initial.steps + l.k;
}
