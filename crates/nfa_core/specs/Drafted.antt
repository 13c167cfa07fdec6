-- A builder's states as an automaton of their own, before any is left out: what its table means.
use Rattle.std.specs.Prelude.{ℕ, suc, ◌*◌, Bool, List, [], ◌∷◌, reverse, length, Option}
use Rattle.nfa_core.specs.Nfa.{Node, byte_range, sparse_node, look_node, union_node, capture_node, fail_node, match_node}
use Rattle.nfa_core.specs.BuilderStates.{DraftNode, empty_draft, range_draft, sparse_draft, look_draft, capture_start_draft}
use Rattle.nfa_core.specs.BuilderStates.{capture_end_draft, union_draft, union_reverse_draft, fail_draft, match_draft, draft_at}
use Rattle.nfa_core.specs.Places.{same_pair}
use Rattle.nfa_core.specs.Runs.{run_ends}
use Rattle.nfa_core.specs.Ways.{Text, node_ways, match_of}

-- the state as one of an automaton, under the names of the table; an empty state is a union of one way
abbrev pub drafted : DraftNode → Node
drafted (empty_draft next) = union_node (next ∷ [])
drafted (range_draft low high next) = byte_range low high next
drafted (sparse_draft ranges) = sparse_node ranges
drafted (look_draft look next) = look_node look next
drafted (capture_start_draft pattern group next) = capture_node next pattern group 0
drafted (capture_end_draft pattern group next) = capture_node next pattern group 0
drafted (union_draft names) = union_node names
drafted (union_reverse_draft names) = union_node (reverse names)
drafted fail_draft = fail_node
drafted (match_draft pattern) = match_node pattern

-- a table of states that gives each name its state
abbrev pub Table : Type 0
Table = ℕ → DraftNode

-- where a pair of offset and state of a table leads, for a search forward or in reverse
abbrev pub table_ways : Bool → Text → Table → ℕ × ℕ → List (ℕ × ℕ)
table_ways reverse t table p = node_ways reverse t (drafted (table p.1)) p.0

-- what matches in a state of a table at an offset
abbrev pub table_match : Table → ℕ × ℕ → Option (ℕ × ℕ)
table_match table p = match_of (drafted (table p.1)) p.0

-- The ends of the runs of a builder's states from a pair, the preferred ones first. The bound is how many pairs there are.
abbrev pub table_ends : Bool → Text → List DraftNode → ℕ × ℕ → List (ℕ × ℕ)
table_ends reverse t drafts p = run_ends same_pair same_pair (table_ways reverse t (draft_at drafts)) (table_match (draft_at drafts))
    (suc t.end * length drafts) p
