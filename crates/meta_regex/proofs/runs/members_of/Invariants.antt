use Rattle.std.proofs.Common.{◌≡◌, ℕ, ◌<◌, true, length}
use Rattle.search_core.specs.ByteSets.{has}
use Rattle.meta_regex.specs.Runs.{has_byte}
use Rattle.meta_regex.proofs.runs.members_of.Given as goal

abbrev pub invariant-loop-byte : goal.invariant-loop-byte
invariant-loop-byte l = (length l.set ≡ 256) × ((b : ℕ) → b < 256 → has l.set b ≡ true → has_byte l.x b ≡ true)
