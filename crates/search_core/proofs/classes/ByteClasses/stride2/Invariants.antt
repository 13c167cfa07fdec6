use Rattle.std.proofs.Common.{◌≡◌, ℕ, ◌-◌, ◌^◌, ◌<◌, ◌≤◌}
use Rattle.search_core.proofs.classes.ByteClasses.stride2.Given as goal

abbrev pub invariant-loop-stride : goal.invariant-loop-stride
invariant-loop-stride l = record {
  bound : l.len ≤ 257;
  few : l.exponent ≤ 9;
  power : l.stride ≡ 2 ^ l.exponent;
  least : (j : ℕ) → j < l.exponent → 2 ^ j < l.len;
}

abbrev pub decreases-loop-stride : goal.decreases-loop-stride
decreases-loop-stride l = 9 - l.exponent
