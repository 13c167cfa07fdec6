use Rattle.std.proofs.Common.{◌≡◌, ℕ, ◌<◌, true, length}
use Rattle.search_core.specs.ByteSets.{has}
use Rattle.meta_regex.specs.FirstBytes.{may_begin}
use Rattle.meta_regex.proofs.runs.first_bytes_of.Given as goal

abbrev pub invariant-loop-byte : goal.invariant-loop-byte
invariant-loop-byte l = (length l.set ≡ 256) × ((b : ℕ) → b < l.byte → may_begin l.x b ≡ true → has l.set b ≡ true)
