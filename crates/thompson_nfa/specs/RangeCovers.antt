-- The edges of a node, divided at both ends of a range and with an edge to no string for each gap in it. Then each edge lies in
-- the range or outside it, and each byte of the range has an edge. A range is given by its first byte and the one after its last.
use Rattle.std.specs.Prelude.{ℕ, ◌+◌, ◌-◌, ◌++◌, List, [], ◌∷◌, min, max, nat_lt, if◌then◌else◌}
use Rattle.thompson_nfa.specs.declared.range_tries.trie_nodes.Edge.{Edge}
use Rattle.thompson_nfa.specs.declared.range_tries.trie_nodes.Next.{Next}
use Rattle.thompson_nfa.specs.declared.range_tries.trie_nodes.Next.TheVariants.{Nothing}

-- an edge of these bytes
abbrev pub edge_of : ℕ → ℕ → Next → Edge
edge_of start end next = record { range = record { start = start; end = end }; next = next }

-- an edge, unless it has no byte
abbrev pub piece : ℕ → ℕ → Next → List Edge
piece start stop next = if nat_lt start stop then edge_of start (stop - 1) next ∷ [] else []

-- the gap before an edge, from a byte on, and the parts of the edge before, in and after the range
abbrev pub cut_edge : ℕ → ℕ → ℕ → Edge → List Edge
cut_edge from start stop e =
    piece (max from start) (min e.range.start stop) Nothing
    ++ (piece e.range.start (min (e.range.end + 1) start) e.next
    ++ (piece (max e.range.start start) (min (e.range.end + 1) stop) e.next
    ++ piece (max e.range.start stop) (e.range.end + 1) e.next))

abbrev pub cover_from : ℕ → ℕ → ℕ → List Edge → List Edge
cover_from from start stop [] = piece (max from start) stop Nothing
cover_from from start stop (e ∷ es) = cut_edge from start stop e ++ cover_from (e.range.end + 1) start stop es
