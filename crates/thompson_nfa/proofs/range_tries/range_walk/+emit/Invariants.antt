use Rattle.std.proofs.Common.{◌≡◌, ◌++◌, map, drop}
use Rattle.hir_core.specs.Sequences.{bytes_of}
use Rattle.thompson_nfa.specs.TrieNodes.{along}
use Rattle.thompson_nfa.specs.RangeWalks.{paths_of, path_then, depth_of}
use Rattle.thompson_nfa.proofs.range_tries.range_walk.+emit.Given as goal

abbrev pub decreases-emit : goal.decreases-emit
decreases-emit l = depth_of l.next

abbrev pub invariant-loop-edge : goal.invariant-loop-edge
invariant-loop-edge l =
    paths_of l.paths.items ++ path_then (map bytes_of l.path) (along l.nodes (drop l.edge-index l.edge-items))
    ≡ paths_of l.fn.paths.items ++ path_then (map bytes_of l.path) (along l.nodes l.edge-items)
