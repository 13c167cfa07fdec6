use Rattle.std.proofs.Common.{◌≡◌, ℕ, ◌<◌, ◌≤◌, false}
use Rattle.search_core.specs.ByteSets.{has}
use Rattle.search_core.proofs.byte_set.ByteSet.next_member.Given as goal

abbrev pub invariant-loop-byte : goal.invariant-loop-byte
invariant-loop-byte l = (b : ℕ) → l.from ≤ b → b < l.byte → has l.self b ≡ false
