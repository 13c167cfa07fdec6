use Rattle.std.proofs.Common.{length, ◌+◌, map, take}
use Rattle.hir_core.specs.Sequences.{bytes_of}
use Rattle.thompson_nfa.proofs.Tries.InsertLemmas.{IsInserting}
use Rattle.thompson_nfa.proofs.range_tries.range_insert.+insert_below.Given as goal

abbrev pub decreases-insert_below : goal.decreases-insert_below
decreases-insert_below l = length l.ranges.now

abbrev pub invariant-loop-piece : goal.invariant-loop-piece
invariant-loop-piece l = IsInserting l.fn.nodes l.nodes l.first.start (l.first.end + 1) (map bytes_of l.rest)
    (take l.piece-index l.piece-items) l.edges.items
