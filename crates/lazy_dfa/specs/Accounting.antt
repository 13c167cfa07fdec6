-- How many bytes a cache is counted to need. The numbers stand for what it keeps, not for real memory, so they are the
-- same on every machine.
use Rattle.std.specs.Prelude.{ℕ, zero, suc, ◌+◌, ◌*◌, max, Bool, List, [], ◌∷◌, length, if◌then◌else◌, nat_le}
use Rattle.search_core.specs.Classes.{alphabet_size}
use Rattle.nfa_core.specs.Nfa.{Automaton}
use Rattle.determinize_core.specs.States.{StateValue}
use Rattle.determinize_core.specs.StateBytes.{encoded}

-- what the byte count of a cache depends on, apart from the states that it holds
pub record Measures : Type 0 where
  pub states : ℕ  -- how many states the automaton has
  pub patterns : ℕ  -- and how many patterns
  pub stride : ℕ  -- how many transitions a state of the cache has
  pub starts : ℕ  -- how many starts it knows

-- seven starts for unanchored searches, seven for anchored ones, and seven for each pattern if a search may name its
-- pattern
abbrev pub start_count : Bool → ℕ → ℕ
start_count starts_for_each_pattern patterns = if starts_for_each_pattern then 14 + 7 * patterns else 14

-- the least power of two from s on that isn't below n, or the last one that the given number of doublings reaches
abbrev pub power_from : ℕ → ℕ → ℕ → ℕ
power_from zero s n = s
power_from (suc more) s n = if nat_le n s then s else power_from more (2 * s) n

-- how many transitions a state has: the least power of two that isn't below the number of classes, including that of
-- the end of input
abbrev pub stride_of : List ℕ → ℕ
stride_of classes = power_from 9 1 (alphabet_size classes)

abbrev pub measures_of : Automaton → List ℕ → Bool → Measures
measures_of a classes starts_for_each_pattern = record {
  states = length a.states;
  patterns = length a.start_pattern;
  stride = stride_of classes;
  starts = start_count starts_for_each_pattern (length a.start_pattern);
}

-- the most bytes that a state has
abbrev pub longest_state : Measures → ℕ
longest_state m = 13 + 4 * m.patterns + 5 * m.states

-- the cost of a row of transitions, with its entry in the list of states
abbrev pub row_cost : ℕ → ℕ
row_cost stride = 4 * stride + 16

-- the cost of a state of this many bytes, with its row and its entry in the map from states to rows
abbrev pub state_cost : ℕ → ℕ → ℕ
state_cost stride bytes = row_cost stride + 20 + bytes

-- the byte count of a cache that holds no states: its working memory, its starts, three sentinels of nine bytes each,
-- and an entry for the dead one
abbrev pub fresh_usage : Measures → ℕ
fresh_usage m = 20 * m.states + longest_state m + 4 * m.starts + 3 * row_cost m.stride + 20 + 27

-- the cost of states
abbrev pub states_cost : ℕ → List StateValue → ℕ
states_cost stride [] = 0
states_cost stride (v ∷ vs) = state_cost stride (length (encoded v)) + states_cost stride vs

-- the byte count of a cache that holds these states, apart from the sentinels
abbrev pub measured_usage : Measures → List StateValue → ℕ
measured_usage m held = fresh_usage m + states_cost m.stride held

-- the least capacity: room for any two states
abbrev pub least_capacity : Measures → ℕ
least_capacity m = fresh_usage m + 2 * state_cost m.stride (longest_state m)

-- The effective capacity is the given one. If the caller asks for no check and the least capacity is larger, it is the
-- least one.
abbrev pub effective_capacity : Measures → Bool → ℕ → ℕ
effective_capacity m skips_check given = if skips_check then max (least_capacity m) given else given
