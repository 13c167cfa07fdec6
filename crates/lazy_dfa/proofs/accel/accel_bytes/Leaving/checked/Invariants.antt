use Rattle.std.proofs.Common.{◌≡◌, ◌<◌, ℕ}
use Rattle.search_core.specs.ByteSets.{has}
use Rattle.lazy_dfa.specs.AccelBytes.{leaves}
use Rattle.lazy_dfa.proofs.accel.accel_bytes.Leaving.checked.Given as goal

abbrev pub invariant-loop-byte : goal.invariant-loop-byte
invariant-loop-byte l = (before : ℕ) → before < l.byte → leaves l.self before ≡ has l.set before
