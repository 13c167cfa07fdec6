-- What contracts see of an NFA, and what it knows of its automaton.
use Rattle.std.specs.Prelude.{ℕ, ◌+◌, ◌<◌, ◌≤◌, min, Bool, true, false, List, [], ◌∷◌, map, length, All}
use Rattle.std.specs.Bool.{nat_eq}
use Rattle.std.specs.List.{list_any, flat_map, fold, sum_by}
use Rattle.search_core.specs.Index.{greatest_index}
use Rattle.look_core.specs.Codes.{repr}
use Rattle.look_core.specs.LookSets.{union_of}
use Rattle.look_core.specs.Terminators.{Terminator}
use Rattle.look_core.specs.ToldApart.{ranges_apart}
use Rattle.search_types.specs.Groups.{Groups}
use Rattle.nfa_core.specs.Walks.{chain_ends}
use Rattle.nfa_core.specs.Nfa.{Node, byte_range, sparse_node, dense_node, look_node, capture_node, match_node, Automaton, node_at}
use Rattle.nfa_core.specs.Nfa.{IsWellFormed}
use Rattle.nfa_core.specs.Ways.{on_nothing}
use Rattle.nfa_core.specs.States.{node_memory}
use Rattle.nfa_core.specs.BuilderStates.{AscendsFrom}

pub record Nfa : Type 0 where
  pub automaton : Automaton
  pub groups : Groups  -- the groups of each pattern; of no pattern where captures were left out
  pub utf8 : Bool  -- whether a match without a byte counts between characters alone
  pub terminator : Terminator

-- the byte ranges that a state distinguishes from other bytes
abbrev pub ranges_apart_by : Terminator → Node → List (ℕ × ℕ)
ranges_apart_by t (byte_range low high next) = (low, high) ∷ []
ranges_apart_by t (sparse_node ranges) = map (λ r. (r.0, r.1)) ranges
ranges_apart_by t (look_node l next) = ranges_apart t l
ranges_apart_by t _ = []

-- the look of a state, as a set
abbrev pub look_of : Node → ℕ
look_of (look_node l next) = repr l
look_of _ = 0

-- the looks of states, as a set
abbrev pub looks_of : List Node → ℕ
looks_of nodes = fold (λ s node. union_of s (look_of node)) 0 nodes

abbrev pub is_capture : Node → Bool
is_capture (capture_node next pattern group slot) = true
is_capture _ = false

abbrev pub is_match : Node → Bool
is_match (match_node pattern) = true
is_match _ = false

-- where a state leads without a byte if each look counts as passed
abbrev pub free_steps : Automaton → ℕ → List ℕ
free_steps a q = on_nothing (node_at a q) (λ l. true)

-- the states that the patterns' starts reach in this way, the starts included
abbrev pub reached_freely : Automaton → List ℕ
reached_freely a = flat_map (chain_ends nat_eq (free_steps a) (length a.states) []) a.start_pattern

-- whether one of them is a match
abbrev pub has_empty : Automaton → Bool
has_empty a = list_any (λ q. is_match (node_at a q)) (reached_freely a)

-- the looks of those states
abbrev pub prefix_looks : Automaton → ℕ
prefix_looks a = looks_of (map (node_at a) (reached_freely a))

-- the bytes that states are taken to need; the count stops at the largest number of 64 bits
abbrev pub memory_of : List Node → ℕ
memory_of nodes = min (sum_by node_memory nodes) 18446744073709551615

-- no table; ranges of bytes that ascend; a match of a pattern that there is
abbrev pub IsNodeOf : ℕ → Node → Type 0
IsNodeOf patterns (byte_range low high next) = (low ≤ high) × (high < 256)
IsNodeOf patterns (sparse_node ranges) = AscendsFrom 0 ranges × All (λ r. r.1 < 256) ranges
IsNodeOf patterns (dense_node names) = ⊥
IsNodeOf patterns (match_node pattern) = pattern < patterns
IsNodeOf patterns _ = Unit {0}

-- what every NFA keeps to
pub record IsSound (a : Automaton) : Type 0 where
  pub named : IsWellFormed a
  pub anchored : a.start_anchored < length a.states
  pub unanchored : a.start_unanchored < length a.states
  pub starts : All (λ q. q < length a.states) a.start_pattern
  pub states_numbered : length a.states ≤ greatest_index + 1
  pub patterns_numbered : length a.start_pattern ≤ greatest_index + 1
  pub nodes : All (IsNodeOf (length a.start_pattern)) a.states
