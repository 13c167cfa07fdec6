use Rattle.std.proofs.Common.{◌≡◌, ℕ, ◌<◌, true, false}
use Rattle.search_core.specs.ByteSets.{has}
use Rattle.meta_regex.proofs.splitting.overlap.Given as goal

abbrev pub invariant-loop-byte : goal.invariant-loop-byte
invariant-loop-byte l = (n : ℕ) → n < l.byte → has l.b n ≡ true → has l.a n ≡ false
