use Rattle.std.proofs.Common.{◌≡◌, [], drop}
use Rattle.search_core.specs.Units.{unit_byte}
use Rattle.determinize_core.proofs.EachLemmas.{StepsAt}
use Rattle.determinize_core.proofs.next_state.step_each.Given as goal

abbrev pub invariant-loop-k : goal.invariant-loop-k
invariant-loop-k g l = record {
  at : StepsAt l.kind l.nfa.automaton (unit_byte l.unit) l.looks (g.S.NameSet.names l.from) l.initial.builder l.initial.steps
      (drop l.k (g.S.NameSet.names l.from)) l.k l.builder (g.S.NameSet.names l.set) l.steps;
  empty : l.stack.items ≡ [];
  bound : g.S.NameSet.bound l.set ≡ g.S.NameSet.bound l.initial.set;
}
