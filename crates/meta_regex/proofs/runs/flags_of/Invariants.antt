use Rattle.std.proofs.Common.{◌≡◌, ℕ, ◌<◌, length}
use Rattle.search_core.specs.ByteSets.{has}
use Rattle.meta_regex.proofs.runs.flags_of.Given as goal

abbrev pub invariant-loop-byte : goal.invariant-loop-byte
invariant-loop-byte l = (length l.flags ≡ 256) × ((b : ℕ) → b < l.byte → has l.flags b ≡ has l.set b)
