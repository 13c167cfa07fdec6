use Rattle.std.proofs.Common.{◌≡◌, ℕ, [], length}
use Rattle.search_core.specs.Units.{unit_byte}
use Rattle.nfa_core.specs.Reached.{AreBelow}
use Rattle.determinize_core.proofs.EachLemmas.{StepsAt}
use Rattle.determinize_core.proofs.next_state.step_ids.Given as goal

abbrev pub invariant-loop-id : goal.invariant-loop-id
invariant-loop-id g l = record {
  at : (k : ℕ) × StepsAt l.kind l.nfa.automaton (unit_byte l.unit) l.looks l.state.ids l.initial.builder l.initial.steps
      l.id-iterator k l.builder (g.S.NameSet.names l.set) l.steps;
  below : AreBelow (length l.nfa.automaton.states) l.id-iterator;
  empty : l.stack.items ≡ [];
  bound : g.S.NameSet.bound l.set ≡ g.S.NameSet.bound l.initial.set;
}
