-- The states of a trie's nodes.
use Rattle.std.specs.Prelude.{◌≡◌, ◌⊎◌, ℕ, ◌+◌, ◌*◌, ◌≤◌, ◌<◌, Bool, true, false, List, [], ◌∷◌, map, get_or, length, reverse, None}
use Rattle.search_core.specs.Index.{greatest_index}
use Rattle.hir_core.specs.Tree.{Tree, empty, literal, alternation}
use Rattle.nfa_core.specs.BuilderStates.{Assembly, draft_at, sparse_draft}
use Rattle.nfa_core.specs.Drafted.{Table}
use Rattle.nfa_core.specs.Renaming.{stands_for}
use Rattle.thompson_nfa.specs.Added.{AddsDraft}
use Rattle.thompson_nfa.specs.Compiled.{Grows, AllTame, Weighs, sum_of_bytes}
use Rattle.thompson_nfa.specs.Denotes.{Denotes}
use Rattle.thompson_nfa.specs.LiteralTries.{edges_in, matches_in, AreChunks}
use Rattle.thompson_nfa.specs.Shared.{branch_trees}
use Rattle.thompson_nfa.specs.declared.literals.literal_groups.Edge.{Edge}

-- a transition by the byte of each edge, to the state of the node to which it leads
abbrev pub edge_ranges : List ℕ → List Edge → List (ℕ × ℕ × ℕ)
edge_ranges names [] = []
edge_ranges names (e ∷ es) = (e.byte, e.byte, get_or names e.next 0) ∷ edge_ranges names es

-- an item is a state of its own, or the common end if it is a match
abbrev pub AddsItem : Assembly → Assembly → List ℕ → ℕ → List Edge → ℕ → Type 0
AddsItem old new names end [] id = (new ≡ old) × (id ≡ end)
AddsItem old new names end (e ∷ es) id = AddsDraft old new id (sparse_draft (edge_ranges names (e ∷ es))) old.groups

-- a string that was read forward, or from its last byte on
abbrev pub spelt : Bool → List ℕ → List ℕ
spelt false w = w
spelt true w = reverse w

abbrev pub spelt_literal : Bool → List ℕ → Tree
spelt_literal back w = literal (spelt back w)

-- one of the strings, each as it is spelt
abbrev pub literals : Bool → List (List ℕ) → Tree
literals back ws = alternation (map (spelt_literal back) ws)

-- the trees of the nodes to which the edges lead
abbrev pub edge_trees : (ℕ → Tree) → List Edge → List Tree
edge_trees x [] = []
edge_trees x (e ∷ es) = x e.next ∷ edge_trees x es

-- a byte of an edge, and then the tree of its node; a match reads nothing
abbrev pub item_tree : Bool → List ℕ → (ℕ → Tree) → List Edge → Tree
item_tree back names x [] = empty
item_tree back names x (e ∷ es) = alternation (branch_trees back (edge_ranges names (e ∷ es)) (edge_trees x (e ∷ es)))

abbrev pub item_trees : Bool → List ℕ → (ℕ → Tree) → List (List Edge) → List Tree
item_trees back names x [] = []
item_trees back names x (i ∷ is) = item_tree back names x i ∷ item_trees back names x is

-- from the state of each node, from number `first` on, the table does what the node's tree means
abbrev pub IsLed : Bool → Table → ℕ → ℕ → List ℕ → (ℕ → Tree) → Type 0
IsLed back table end first names x = (n : ℕ) → first ≤ n → n < length names → Denotes back table (get_or names n 0) end (x n)

-- States of a node were added, or none if it is a match alone, whose state is the common end. An edge takes at most 32 bytes: a
-- state with one transition. A match takes at most 36: a choice of three ways.
pub record AddsNode (old new : Assembly) (names : List ℕ) (end : ℕ) (items : List (List Edge)) (id : ℕ) : Type 0 where
  pub grows : Grows old new
  pub groups : new.groups ≡ old.groups
  pub states : length new.drafts ≤ length old.drafts + 2 * edges_in items
  pub bytes : sum_of_bytes new + 4096 * length old.drafts ≤ sum_of_bytes old + 4096 * length new.drafts
  pub weighs : Weighs old new (32 * edges_in items + 36 * matches_in items)
  pub numbered : length old.drafts ≤ greatest_index + 1 → length new.drafts ≤ greatest_index + 1
  pub tame : AllTame true (length old.drafts) new
  pub stands : (q : ℕ) → length old.drafts ≤ q → q < length new.drafts → stands_for (draft_at new.drafts q) ≡ None
  pub there : (id ≡ end) ⊎ ((length old.drafts ≤ id) × (id < length new.drafts))
  pub denotes : (table : Table) → ((q : ℕ) → length old.drafts ≤ q → q < length new.drafts → table q ≡ draft_at new.drafts q) →
      (first : ℕ) → AreChunks first (length names) items → (x : ℕ → Tree) →
      IsLed old.reverse table end first names x → Denotes old.reverse table id end (alternation (item_trees old.reverse names x items))

-- what contracts see of a trie of literals: the strings in which they are read, in order of preference
pub record Strings : Type 0 where
  pub reverse : Bool  -- whether a literal is read from its last byte on
  pub strings : List (List ℕ)
