use Rattle.std.proofs.Common.{◌≡◌, ◌++◌, drop}
use Rattle.thompson_nfa.specs.RangeCovers.{cover_from}
use Rattle.thompson_nfa.proofs.range_tries.range_cover.cover.Given as goal

abbrev pub invariant-loop-edge : goal.invariant-loop-edge
invariant-loop-edge l = l.pieces.items ++ cover_from l.from l.start l.stop (drop l.edge-index l.edges) ≡ cover_from 0 l.start l.stop l.edges
