use Rattle.std.proofs.Common.{◌≡◌, ◌≤◌, ◌-◌, length, reverse}
use Rattle.nfa_core.specs.NfaParts.{automaton_in}
use Rattle.nfa_core.proofs.ReachedLemmas.{StandsAt}
use Rattle.nfa_core.proofs.reached.walk.Given as goal

abbrev pub invariant-loop-id : goal.invariant-loop-id
invariant-loop-id g l = record {
  bound : l.set.bound ≡ length l.parts.states.items;
  fits : length l.set.names ≤ l.set.bound;
  stands : StandsAt (automaton_in l.parts) l.set.bound (reverse l.stack.items) l.set.names;
}

abbrev pub decreases-loop-id : goal.decreases-loop-id
decreases-loop-id g l = l.set.bound - length l.set.names
