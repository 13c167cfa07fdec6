use Rattle.std.proofs.Common.{◌≡◌, ℕ, ◌-◌, ◌<◌, ◌≤◌, true}
use Rattle.search_core.specs.ByteSets.{has}
use Rattle.search_core.proofs.byte_set.ByteSet.range_end.Given as goal

abbrev pub invariant-loop-end : goal.invariant-loop-end
invariant-loop-end l = record {
  from : l.start ≤ l.end;
  all : (b : ℕ) → l.start < b → b ≤ l.end → has l.self b ≡ true;
}

abbrev pub decreases-loop-end : goal.decreases-loop-end
decreases-loop-end l = 255 - l.end
