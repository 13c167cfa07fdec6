-- What contracts see of an NFA: an automaton that reads bytes. States are named by their indices.
use Rattle.std.specs.Prelude.{ℕ, Bool, List, [], ◌∷◌, map, length, get_or, ◌<◌}
use Rattle.std.specs.Bool.{nat_eq}
use Rattle.nfa_core.specs.Walks.{Has}
use Rattle.look_core.specs.declared.look.Look.{Look}

pub data Node : Type 0 where
  byte_range : ℕ → ℕ → ℕ → Node  -- a byte from the first to the second number leads to the third
  sparse_node : List (ℕ × ℕ × ℕ) → Node  -- the same, by the first of such ranges that has the byte
  dense_node : List ℕ → Node  -- byte b leads to the name with index b; 0: nowhere
  look_node : Look → ℕ → Node  -- leads on where the look holds
  union_node : List ℕ → Node  -- leads to each of these, the preferred first
  binary_union : ℕ → ℕ → Node  -- leads to both, the first is preferred
  capture_node : ℕ → ℕ → ℕ → ℕ → Node  -- leads to the first; then pattern, group and slot
  fail_node : Node  -- leads nowhere
  match_node : ℕ → Node  -- the pattern with this number matches

pub record Automaton : Type 0 where
  pub states : List Node
  pub start_anchored : ℕ
  pub start_unanchored : ℕ
  pub start_pattern : List ℕ  -- for each pattern its anchored start
  pub reverse : Bool  -- whether it reads from the end of a text to its start

-- a name that no state has is that of a state which leads nowhere
abbrev pub node_at : Automaton → ℕ → Node
node_at a q = get_or a.states q fail_node

-- the names that a state leads to
abbrev pub leads_to : Node → List ℕ
leads_to (byte_range low high next) = next ∷ []
leads_to (sparse_node ranges) = map (λ r. r.2) ranges
leads_to (dense_node names) = names
leads_to (look_node l next) = next ∷ []
leads_to (union_node names) = names
leads_to (binary_union first second) = first ∷ second ∷ []
leads_to (capture_node next pattern group slot) = next ∷ []
leads_to _ = []

-- each name that a state leads to is a state's
abbrev pub IsWellFormed : Automaton → Type 0
IsWellFormed a = (q r : ℕ) → Has nat_eq r (leads_to (node_at a q)) → r < length a.states
