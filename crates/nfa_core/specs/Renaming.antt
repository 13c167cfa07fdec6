-- What is built from a builder's states. Empty states and unions of one way are left out, and what led to one of them leads to the first
-- state past it that is neither.
use Rattle.std.specs.Prelude.{◌≡◌, ℕ, zero, suc, ◌+◌, ◌<◌, List, [], ◌∷◌, map, reverse, length, take, Option, Some, None, is_none}
use Rattle.std.specs.List.{filter}
use Rattle.std.specs.Option.{unwrap_or}
use Rattle.search_types.specs.Groups.{Groups, slot}
use Rattle.nfa_core.specs.Nfa.{Node, byte_range, sparse_node, look_node, union_node, binary_union, capture_node, fail_node, match_node}
use Rattle.nfa_core.specs.Nfa.{Automaton}
use Rattle.nfa_core.specs.BuilderStates.{DraftNode, empty_draft, range_draft, sparse_draft, look_draft, capture_start_draft}
use Rattle.nfa_core.specs.BuilderStates.{capture_end_draft, union_draft, union_reverse_draft, fail_draft, match_draft, draft_at, Assembly}

-- the state that an empty state or a union of one way stands for
abbrev pub stands_for : DraftNode → Option ℕ
stands_for (empty_draft next) = Some next
stands_for (union_draft (next ∷ [])) = Some next
stands_for (union_reverse_draft (next ∷ [])) = Some next
stands_for _ = None

-- continues from the next state, if there is one
abbrev pub going_on : ℕ → (ℕ → ℕ) → Option ℕ → ℕ
going_on q go None = q
going_on q go (Some next) = go next

-- the state that is reached past at most the given number of such states
abbrev pub past_within : List DraftNode → ℕ → ℕ → ℕ
past_within drafts zero q = q
past_within drafts (suc n) q = going_on q (past_within drafts n) (stands_for (draft_at drafts q))

-- the first state from q on that stands for itself, provided that states that stand for others make no loop
abbrev pub past : List DraftNode → ℕ → ℕ
past drafts q = past_within drafts (length drafts) q

-- from each state, one is reached that stands for itself
abbrev pub HasNoLoop : List DraftNode → Type 0
HasNoLoop drafts = (q : ℕ) → q < length drafts → (n : ℕ) × (stands_for (draft_at drafts (past_within drafts n q)) ≡ None)

-- the states that stand for themselves, in order
abbrev pub kept : List DraftNode → List DraftNode
kept drafts = filter (λ draft. is_none (stands_for draft)) drafts

-- the name in the automaton: how many states are kept before the one past q
abbrev pub new_name : List DraftNode → ℕ → ℕ
new_name drafts q = length (kept (take (past drafts q) drafts))

abbrev pub ways_node : List ℕ → Node
ways_node [] = fail_node
ways_node (first ∷ second ∷ []) = binary_union first second
ways_node names = union_node names

abbrev pub ranges_node : List (ℕ × ℕ × ℕ) → Node
ranges_node [] = fail_node
ranges_node ((low, high, next) ∷ []) = byte_range low high next
ranges_node ranges = sparse_node ranges

-- the state of the automaton that a kept state becomes; `name` gives the names that others have there
abbrev pub renamed : (ℕ → ℕ) → Groups → DraftNode → Node
renamed name groups (empty_draft next) = fail_node
renamed name groups (range_draft low high next) = byte_range low high (name next)
renamed name groups (sparse_draft ranges) = ranges_node (map (λ r. (r.0, r.1, name r.2)) ranges)
renamed name groups (look_draft look next) = look_node look (name next)
renamed name groups (capture_start_draft pattern group next) = capture_node (name next) pattern group
    (unwrap_or (slot groups pattern group) 0)
renamed name groups (capture_end_draft pattern group next) = capture_node (name next) pattern group
    (unwrap_or (slot groups pattern group) 0 + 1)
renamed name groups (union_draft names) = ways_node (map name names)
renamed name groups (union_reverse_draft names) = ways_node (map name (reverse names))
renamed name groups fail_draft = fail_node
renamed name groups (match_draft pattern) = match_node pattern

-- the automaton that is built, with the states in which it starts
abbrev pub automaton_of : Assembly → ℕ → ℕ → Automaton
automaton_of b anchored unanchored = record {
  states = map (renamed (new_name b.drafts) b.groups) (kept b.drafts);
  start_anchored = new_name b.drafts anchored;
  start_unanchored = new_name b.drafts unanchored;
  start_pattern = map (new_name b.drafts) b.starts;
  reverse = b.reverse;
}
