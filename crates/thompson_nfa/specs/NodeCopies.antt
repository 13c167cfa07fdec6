-- Copies of the nodes of a trie.
use Rattle.std.specs.Prelude.{◌≡◌, ℕ, ◌<◌, List, [], length, get_or}
use Rattle.thompson_nfa.specs.declared.range_tries.trie_nodes.Next.{Next}
use Rattle.thompson_nfa.specs.declared.range_tries.trie_nodes.Next.TheVariants.{Nothing, Node}

-- a node has no copy, or one that emits what it does
pub record AreCopies (nodes copy : List (List (List (ℕ × ℕ)))) (names : List Next) : Type 0 where
  pub len : length names ≡ length nodes
  pub same : (i n : ℕ) → get_or names i Nothing ≡ Node n → (n < length copy) × (get_or copy n [] ≡ get_or nodes i [])

-- no node has a copy
pub record AreNone (count : ℕ) (names : List Next) : Type 0 where
  pub len : length names ≡ count
  pub none : (i : ℕ) → get_or names i Nothing ≡ Nothing
