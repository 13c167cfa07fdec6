use Rattle.std.proofs.Common.{◌≡◌, ℕ, ◌<◌, ◌≤◌, true}
use Rattle.search_core.specs.ByteSets.{has}
use Rattle.search_core.proofs.byte_set.ByteSet.contains_range.Given as goal

abbrev pub invariant-loop-byte : goal.invariant-loop-byte
invariant-loop-byte l = (b : ℕ) → l.start ≤ b → b < l.byte → has l.self b ≡ true
