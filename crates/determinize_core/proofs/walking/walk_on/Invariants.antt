use Rattle.std.proofs.Common.{◌≡◌, ◌++◌, [], All, ◌+◌, ◌*◌, ◌<◌, ◌≤◌, length, drop}
use Rattle.std.specs.Bool.{nat_eq}
use Rattle.std.specs.List.{IsDistinct}
use Rattle.determinize_core.specs.Costs.{free_ways}
use Rattle.determinize_core.specs.WalkLists.{walked, units_of}
use Rattle.determinize_core.proofs.walking.walk_on.Given as goal

abbrev pub invariant-loop-k : goal.invariant-loop-k
invariant-loop-k g l = record {
  walked : l.states.items ++ walked l.nfa.automaton l.nfa.terminator l.kind l.last (units_of (drop l.k l.bytes))
      ≡ l.fn.states.items ++ walked l.nfa.automaton l.nfa.terminator l.kind l.fn.first (units_of l.bytes);
  below : All (λ q. q < length l.nfa.automaton.states) l.last.ids;
  once : IsDistinct nat_eq l.last.ids;
  empty : l.stack.items ≡ [];
  bound1 : g.S.NameSet.bound l.sets.set1 ≡ length l.nfa.automaton.states;
  bound2 : g.S.NameSet.bound l.sets.set2 ≡ length l.nfa.automaton.states;
  cost : l.steps ≤ l.initial.steps + l.k * (3 * length l.nfa.automaton.states + 2 * free_ways l.nfa.automaton);
}
