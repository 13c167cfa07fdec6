use Rattle.std.proofs.Common.{◌≡◌, drop, map}
use Rattle.hir_core.specs.Sequences.{ranges_of_sequence, bytes_of, begins_in_ranges}
use Rattle.hir_core.proofs.utf8_sequences.Utf8Sequence.matches.Given as goal

abbrev pub invariant-loop-i : goal.invariant-loop-i
invariant-loop-i l =
    begins_in_ranges (ranges_of_sequence l.self) l.bytes ≡ begins_in_ranges (map bytes_of (drop l.i l.ranges)) (drop l.i l.bytes)
