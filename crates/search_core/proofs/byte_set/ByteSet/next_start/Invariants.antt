use Rattle.std.proofs.Common.{◌≡◌, ℕ, ◌<◌, ◌≤◌, false}
use Rattle.search_core.specs.ByteSets.{starts_range}
use Rattle.search_core.proofs.byte_set.ByteSet.next_start.Given as goal

abbrev pub invariant-loop-byte : goal.invariant-loop-byte
invariant-loop-byte l = (b : ℕ) → l.from ≤ b → b < l.byte → starts_range l.self b ≡ false
