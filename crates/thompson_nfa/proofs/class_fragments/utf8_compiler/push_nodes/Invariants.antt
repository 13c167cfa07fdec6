use Rattle.std.proofs.Common.{◌≡◌, ◌++◌, map, drop}
use Rattle.hir_core.specs.Sequences.{bytes_of}
use Rattle.thompson_nfa.specs.Utf8Stacks.{fresh}
use Rattle.thompson_nfa.proofs.class_fragments.utf8_compiler.push_nodes.Given as goal

abbrev pub invariant-loop-i : goal.invariant-loop-i
invariant-loop-i l =
    (l.state.nodes.items ++ map fresh (drop l.i (map bytes_of l.ranges)) ≡ l.fn.state.nodes.items
    ++ map fresh (drop l.from (map bytes_of l.ranges)))
    × (l.state.compiled ≡ l.fn.state.compiled) × (l.state.end ≡ l.fn.state.end)
