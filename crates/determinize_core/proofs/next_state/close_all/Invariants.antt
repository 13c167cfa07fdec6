use Rattle.std.proofs.Common.{◌≡◌, [], drop}
use Rattle.determinize_core.proofs.CloseAllLemmas.{HasClosed}
use Rattle.determinize_core.proofs.next_state.close_all.Given as goal

abbrev pub invariant-loop-k : goal.invariant-loop-k
invariant-loop-k g l = record {
  closes : HasClosed l.nfa.automaton l.looks (g.S.NameSet.names l.from) (drop l.k (g.S.NameSet.names l.from))
      (g.S.NameSet.names l.set) l.initial.steps l.k l.steps;
  empty : l.stack.items ≡ [];
  bound : g.S.NameSet.bound l.set ≡ g.S.NameSet.bound l.initial.set;
}
