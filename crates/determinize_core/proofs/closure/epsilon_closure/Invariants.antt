use Rattle.std.proofs.Common.{◌≡◌, ◌≤◌, ◌-◌, length, reverse}
use Rattle.determinize_core.proofs.ClosureLemmas.{StandsAt}
use Rattle.determinize_core.proofs.closure.epsilon_closure.Given as goal

abbrev pub invariant-loop-id : goal.invariant-loop-id
invariant-loop-id g l = record {
  bound : g.S.NameSet.bound l.set ≡ g.S.NameSet.bound l.initial.set;
  fits : length (g.S.NameSet.names l.set) ≤ g.S.NameSet.bound l.set;
  stands : StandsAt l.nfa.automaton l.look_have l.fn.start (g.S.NameSet.names l.initial.set) l.initial.steps (reverse l.stack.items)
      (g.S.NameSet.names l.set) l.steps;
}

abbrev pub decreases-loop-id : goal.decreases-loop-id
decreases-loop-id g l = g.S.NameSet.bound l.set - length (g.S.NameSet.names l.set)
