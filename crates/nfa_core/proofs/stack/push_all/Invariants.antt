use Rattle.std.proofs.Common.{◌≡◌, ◌++◌, drop, reverse}
use Rattle.nfa_core.proofs.stack.push_all.Given as goal

abbrev pub invariant-loop-i : goal.invariant-loop-i
invariant-loop-i l = reverse l.stack.items ≡ drop l.i l.ids ++ reverse l.initial.stack.items
