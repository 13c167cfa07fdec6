-- The items of a node of a trie of strings, in order of preference: edges by bytes, or a match.
use Rattle.std.specs.Prelude.{◌≡◌, ℕ, suc, ◌+◌, ◌*◌, ◌≤◌, List, [], ◌∷◌, ◌++◌, length, nat_eq, if◌then◌else◌}
use Rattle.hir_core.specs.Means.{stands}
use Rattle.nfa_core.specs.Walks.{distinct}
use Rattle.thompson_nfa.specs.LiteralGroups.{chunk_strings, Ascends, LeadWithin}
use Rattle.thompson_nfa.specs.declared.literals.literal_groups.Edge.{Edge}

-- where the strings end that occur at offset i, in order
abbrev pub literal_ends_of : List (List ℕ) → List ℕ → ℕ → List ℕ
literal_ends_of [] h i = []
literal_ends_of (w ∷ ws) h i = (if stands h i w then (i + length w) ∷ [] else []) ++ literal_ends_of ws h i

-- at each offset both have the same ends in the same order, repeats dropped
abbrev pub IsLike : List (List ℕ) → List (List ℕ) → Type 0
IsLike vs ws = (h : List ℕ) (i : ℕ) → distinct nat_eq (literal_ends_of vs h i) ≡ distinct nat_eq (literal_ends_of ws h i)

-- the strings of an item: one without edges is a match, which is the end of a string
abbrev pub item_strings : List (List (List ℕ)) → List Edge → List (List ℕ)
item_strings groups [] = [] ∷ []
item_strings groups (e ∷ es) = chunk_strings groups (e ∷ es)

abbrev pub node_strings : List (List (List ℕ)) → List (List Edge) → List (List ℕ)
node_strings groups [] = []
node_strings groups (x ∷ xs) = item_strings groups x ++ node_strings groups xs

-- how many edges there are
abbrev pub edges_in : List (List Edge) → ℕ
edges_in [] = 0
edges_in (x ∷ xs) = length x + edges_in xs

-- how many items are no match
abbrev pub chunks_in : List (List Edge) → ℕ
chunks_in [] = 0
chunks_in ([] ∷ xs) = chunks_in xs
chunks_in ((e ∷ es) ∷ xs) = suc (chunks_in xs)

-- how many items are matches
abbrev pub matches_in : List (List Edge) → ℕ
matches_in [] = 0
matches_in ([] ∷ xs) = suc (matches_in xs)
matches_in ((e ∷ es) ∷ xs) = matches_in xs

-- the edges of each item ascend, and lead to groups with such numbers
abbrev pub AreChunks : ℕ → ℕ → List (List Edge) → Type 0
AreChunks first end [] = Unit {0}
AreChunks first end (x ∷ xs) = Ascends 0 x 256 × LeadWithin first end x × AreChunks first end xs

-- The items have the strings, by way of the groups to which edges lead, whose numbers begin at `first`. No two matches are adjacent,
-- and no two others are.
pub record IsNode (first : ℕ) (groups : List (List (List ℕ))) (items : List (List Edge)) (strings : List (List ℕ)) : Type 0 where
  pub like : IsLike (node_strings groups items) strings
  pub chunks : AreChunks first (length groups) items
  pub some : 1 ≤ length items
  pub few : length items ≤ 2 * chunks_in items + 1
  pub parted : length items ≤ 2 * matches_in items + 1
