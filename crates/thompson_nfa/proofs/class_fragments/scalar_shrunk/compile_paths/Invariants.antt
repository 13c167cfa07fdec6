use Rattle.std.proofs.Common.{◌+◌, ◌≤◌, take, drop}
use Rattle.thompson_nfa.specs.ByteRoom.{sequence_bytes}
use Rattle.thompson_nfa.specs.Compiled.{sum_of_bytes}
use Rattle.thompson_nfa.specs.RangeWalks.{paths_of}
use Rattle.thompson_nfa.specs.Utf8Compiles.{IsCompiling}
use Rattle.thompson_nfa.specs.Utf8Stacks.{left_bytes}
use Rattle.thompson_nfa.proofs.class_fragments.scalar_shrunk.compile_paths.Given as goal

abbrev pub invariant-loop-path : goal.invariant-loop-path
invariant-loop-path l =
    IsCompiling l.fn.builder l.builder l.state.end l.state.compiled l.state.nodes.items (take l.path-index (paths_of l.paths))
    × (sum_of_bytes l.builder + left_bytes l.state.nodes.items + sequence_bytes (drop l.path-index (paths_of l.paths))
    ≤ sum_of_bytes l.fn.builder + 48 + sequence_bytes (paths_of l.paths))
