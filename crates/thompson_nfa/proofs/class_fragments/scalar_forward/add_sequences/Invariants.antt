use Rattle.std.proofs.Common.{◌+◌, ◌≤◌}
use Rattle.hir_core.specs.Sequences.{utf8_sequences}
use Rattle.thompson_nfa.specs.ByteRoom.{sequence_bytes}
use Rattle.thompson_nfa.specs.Compiled.{sum_of_bytes}
use Rattle.thompson_nfa.specs.Utf8Stacks.{left_bytes}
use Rattle.thompson_nfa.proofs.Classes.FollowLemmas.{AddsTo}
use Rattle.thompson_nfa.proofs.class_fragments.scalar_forward.add_sequences.Given as goal

abbrev pub invariant-loop-sequence : goal.invariant-loop-sequence
invariant-loop-sequence l =
    AddsTo l.fn.builder l.builder l.fn.state.end l.state.end l.fn.state.compiled l.state.compiled l.fn.state.nodes.items l.state.nodes.items
    l.sequence-iterator (utf8_sequences l.fn.first l.fn.last)
    × (sum_of_bytes l.builder + left_bytes l.state.nodes.items + sequence_bytes l.sequence-iterator ≤ sum_of_bytes l.fn.builder
    + left_bytes l.fn.state.nodes.items + sequence_bytes (utf8_sequences l.fn.first l.fn.last))
