use Rattle.std.proofs.Common.{◌+◌, ◌≤◌, drop}
use Rattle.hir_core.specs.BySequences.{sequences_of}
use Rattle.thompson_nfa.specs.ByteRoom.{sequence_bytes}
use Rattle.thompson_nfa.specs.Compiled.{sum_of_bytes}
use Rattle.thompson_nfa.proofs.Classes.SuffixRanges.{RangesReverse}
use Rattle.thompson_nfa.proofs.class_fragments.scalar_reverse.compile_scalars_reverse.Given as goal

abbrev pub invariant-loop-range : goal.invariant-loop-range
invariant-loop-range l =
    RangesReverse l.fn.builder l.builder l.fn.suffixes.capacity l.suffixes l.choice l.end l.range-index l.ranges
    × (sum_of_bytes l.builder + sequence_bytes (sequences_of (drop l.range-index l.ranges))
    ≤ sum_of_bytes l.fn.builder + 48 + sequence_bytes (sequences_of l.ranges))
