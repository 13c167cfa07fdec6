-- A trie of strings as its nodes, each with the stem of its strings.
use Rattle.std.specs.Prelude.{◌≡◌, ℕ, ◌+◌, ◌<◌, ◌≤◌, List, [], ◌∷◌, ◌++◌, map, length, get_or}
use Rattle.thompson_nfa.specs.LiteralGroups.{bytes_in, strings_in_all, AddsGroups}
use Rattle.thompson_nfa.specs.LiteralStems.{after_prefix}
use Rattle.thompson_nfa.specs.LiteralTries.{edges_in, matches_in, IsNode}
use Rattle.thompson_nfa.specs.declared.literals.literal_groups.Edge.{Edge}
use Rattle.thompson_nfa.specs.declared.literals.literal_nodes.Node.{Node}

-- what contracts see of a node: the stem of its strings, and the items of what follows it in each
pub record NodeValue : Type 0 where
  pub stem : List ℕ
  pub items : List (List Edge)

abbrev pub node_value : Node → NodeValue
node_value n = record { stem = n.stem.now; items = map (λ x. x.items) n.items.items }

-- how many bytes the stem and the edges have
abbrev pub node_weight : NodeValue → ℕ
node_weight n = length n.stem + edges_in n.items

abbrev pub weight_in_all : List NodeValue → ℕ
weight_in_all [] = 0
weight_in_all (n ∷ ns) = node_weight n + weight_in_all ns

-- how many matches there are
abbrev pub matches_in_all : List NodeValue → ℕ
matches_in_all [] = 0
matches_in_all (n ∷ ns) = matches_in n.items + matches_in_all ns

-- where there is no node
abbrev pub no_node : NodeValue
no_node = record { stem = []; items = [] }

-- The node has the strings: its items have what follows the stem.
pub record HasStrings (first : ℕ) (groups : List (List (List ℕ))) (node : NodeValue) (strings : List (List ℕ)) : Type 0 where
  pub rest : List (List ℕ)
  pub is : after_prefix node.stem rest ≡ strings
  pub holds : IsNode first groups node.items rest

-- A node was made of the strings, and groups were added to which its edges lead; each match is the end of a string.
pub record LaysNode (first : ℕ) (old new : List (List (List ℕ))) (node : NodeValue) (strings : List (List ℕ)) : Type 0 where
  pub rest : List (List ℕ)
  pub is : after_prefix node.stem rest ≡ strings
  pub adds : AddsGroups old new (edges_in node.items) rest
  pub ended : matches_in node.items + strings_in_all new ≤ strings_in_all old + length rest
  pub holds : (before : List (List (List ℕ))) → length before ≡ first → IsNode first (before ++ new) node.items rest

-- The nodes of all groups, of which the first has all strings. Edges lead to later nodes, bytes of stems and edges are no more
-- than those of the strings, and matches no more than the strings.
pub record IsLaidTrie (nodes : List NodeValue) (strings : List (List ℕ)) : Type 0 where
  pub groups : List (List (List ℕ))
  pub as_many : length groups ≡ length nodes
  pub some : 1 ≤ length nodes
  pub root : get_or groups 0 [] ≡ strings
  pub each : (i : ℕ) → i < length nodes → HasStrings (i + 1) groups (get_or nodes i no_node) (get_or groups i [])
  pub room : weight_in_all nodes ≤ bytes_in strings
  pub ended : matches_in_all nodes ≤ length strings
