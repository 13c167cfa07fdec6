use Rattle.std.proofs.Common.{◌≡◌, ℕ, ◌<◌, length, not}
use Rattle.search_core.specs.ByteSets.{has}
use Rattle.meta_regex.proofs.runs.flags_of_others.Given as goal

abbrev pub invariant-loop-byte : goal.invariant-loop-byte
invariant-loop-byte l = (length l.flags ≡ 256) × ((b : ℕ) → b < l.byte → has l.flags b ≡ not (has l.set b))
