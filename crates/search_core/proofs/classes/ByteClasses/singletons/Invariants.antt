use Rattle.std.proofs.Common.{◌≡◌, ℕ, ◌<◌, length, get_or}
use Rattle.search_core.proofs.classes.ByteClasses.singletons.Given as goal

abbrev pub invariant-loop-byte : goal.invariant-loop-byte
invariant-loop-byte l = record {
  len : length l.classes ≡ 256;
  own : (b : ℕ) → b < l.byte → get_or l.classes b 0 ≡ b;
}
