use Rattle.std.proofs.Common.{ℕ, ◌≡◌, ◌<◌, length, get_or, map, take}
use Rattle.nfa_core.specs.Transitions.{range_of}
use Rattle.thompson_nfa.proofs.class_fragments.class.transitions.Given as goal

abbrev pub invariant-loop-range : goal.invariant-loop-range
invariant-loop-range l = record {
  each : map range_of l.all.items ≡ map (λ r. (r.0, r.1, l.next)) (take l.range-index l.ranges);
  bytes : (k : ℕ) (d : ℕ × ℕ) → k < l.range-index → k < length l.ranges → (get_or l.ranges k d).1 < 256;
}
