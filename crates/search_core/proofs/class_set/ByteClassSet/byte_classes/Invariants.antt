use Rattle.std.proofs.Common.{◌≡◌, ℕ, ◌<◌, length, get_or}
use Rattle.search_core.specs.Marks.{marks_below}
use Rattle.search_core.proofs.class_set.ByteClassSet.byte_classes.Given as goal

abbrev pub invariant-loop-byte : goal.invariant-loop-byte
invariant-loop-byte l = record {
  len : length l.classes ≡ 256;
  numbered : (b : ℕ) → b < l.byte → get_or l.classes b 0 ≡ marks_below l.self-inside.marks b;
  class : l.class ≡ marks_below l.self-inside.marks l.byte;
}
