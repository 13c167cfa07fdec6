use Rattle.std.proofs.Common.{◌+◌, ◌≤◌, drop}
use Rattle.hir_core.specs.BySequences.{sequences_of}
use Rattle.thompson_nfa.specs.ByteRoom.{sequence_bytes}
use Rattle.thompson_nfa.specs.Compiled.{sum_of_bytes}
use Rattle.thompson_nfa.specs.Utf8Stacks.{left_bytes}
use Rattle.thompson_nfa.proofs.Classes.FollowLemmas.{RangesTo}
use Rattle.thompson_nfa.proofs.class_fragments.scalar_forward.compile_scalars_forward.Given as goal

abbrev pub invariant-loop-range : goal.invariant-loop-range
invariant-loop-range l =
    RangesTo l.fn.builder l.builder l.state.end l.state.compiled l.state.nodes.items l.range-index l.ranges
    × (sum_of_bytes l.builder + left_bytes l.state.nodes.items + sequence_bytes (sequences_of (drop l.range-index l.ranges))
    ≤ sum_of_bytes l.fn.builder + 48 + sequence_bytes (sequences_of l.ranges))
