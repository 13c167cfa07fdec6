-- A class that is compiled sequence by sequence: what its states and the nodes on the path of the last sequence read.
use Rattle.std.specs.Prelude.{◌≡◌, ℕ, ◌+◌, ◌*◌, ◌<◌, ◌≤◌, Bool, List, [], ◌∷◌, ◌++◌, length, map, None, true}
use Rattle.hir_core.specs.Tree.{Tree, empty, never, alternation}
use Rattle.hir_core.specs.Means.{Looks}
use Rattle.hir_core.specs.PreferredEnds.{preferred_ends}
use Rattle.hir_core.specs.Facts.{LoopsRead}
use Rattle.nfa_core.specs.BuilderStates.{Assembly, draft_at, empty_draft}
use Rattle.nfa_core.specs.Renaming.{stands_for}
use Rattle.nfa_core.specs.Drafted.{Table}
use Rattle.thompson_nfa.specs.Compiled.{Grows, Finishes, AllTame, sum_of_bytes}
use Rattle.thompson_nfa.specs.Denotes.{Denotes}
use Rattle.thompson_nfa.specs.Shared.{read_then, read_tree}
use Rattle.thompson_nfa.specs.Utf8Stacks.{Stage, StagesRise, Keeps, AreBytes, ComesAfter, path_of}
use Rattle.thompson_nfa.specs.SlotTables.{SlotTable}
use Rattle.nfa_core.specs.declared.transition.Transition.{Transition}
use Rattle.search_core.specs.Index.{greatest_index}

-- a range that leads to a state, and what is read from there
pub record Branch : Type 0 where
  pub low : ℕ
  pub high : ℕ
  pub next : ℕ
  pub tree : Tree

-- a node with what is read after its ranges
pub record Limb : Type 0 where
  pub branches : List Branch
  pub last : ℕ × ℕ

abbrev pub edge : Branch → ℕ × ℕ × ℕ
edge b = (b.low, b.high, b.next)

abbrev pub stage_of : Limb → Stage
stage_of l = record { frozen = map edge l.branches; last = l.last }

-- what is read by way of the branch
abbrev pub branch_tree : Bool → Branch → Tree
branch_tree back b = read_then back (b.low, b.high) b.tree

-- what is read from a node on the path: by one of its branches, or on along the path
abbrev pub limb_tree : Bool → List Limb → Tree
limb_tree back [] = empty
limb_tree back (l ∷ ls) = alternation (map (branch_tree back) l.branches ++ read_then back l.last (limb_tree back ls) ∷ [])

-- what is read from the first node: nothing if there is none yet
abbrev pub whole_tree : Bool → List Limb → Tree
whole_tree back [] = never
whole_tree back (l ∷ ls) = limb_tree back (l ∷ ls)

-- a node with no branch
abbrev pub fresh_limb : ℕ × ℕ → Limb
fresh_limb range = record { branches = []; last = range }

-- the node whose last range leads to a state from which this tree is read, with another range after it
abbrev pub grown : ℕ → Tree → ℕ × ℕ → Limb → Limb
grown next x range l = record {
  branches = l.branches ++ record { low = l.last.0; high = l.last.1; next = next; tree = x } ∷ [];
  last = range;
}

-- from the branches' states to the end the table does what the branches' trees mean
abbrev pub BranchesLead : Bool → Table → ℕ → List Branch → Type 0
BranchesLead back table end [] = Unit {0}
BranchesLead back table end (b ∷ bs) = Denotes back table b.next end b.tree × BranchesLead back table end bs

abbrev pub LimbsLead : Bool → Table → ℕ → List Limb → Type 0
LimbsLead back table end [] = Unit {0}
LimbsLead back table end (l ∷ ls) = BranchesLead back table end l.branches × LimbsLead back table end ls

-- the branches' states are below n
abbrev pub BranchesBelow : ℕ → List Branch → Type 0
BranchesBelow n [] = Unit {0}
BranchesBelow n (b ∷ bs) = (b.next < n) × BranchesBelow n bs

abbrev pub LimbsBelow : ℕ → List Limb → Type 0
LimbsBelow n [] = Unit {0}
LimbsBelow n (l ∷ ls) = BranchesBelow n l.branches × LimbsBelow n ls

-- both prefer the same ends, and if the body of every unbounded repetition consumes at least one byte in z, so it does in y
pub record ReadsAs (y z : Tree) : Type 0 where
  pub reading : LoopsRead z → LoopsRead y
  pub ends : (looks : Looks) (h : List ℕ) (i : ℕ) → preferred_ends looks h y i ≡ preferred_ends looks h z i

-- the last of the sequences, or no range if there is none
abbrev pub last_of : List (List (ℕ × ℕ)) → List (ℕ × ℕ)
last_of [] = []
last_of (q ∷ []) = q
last_of (q ∷ r ∷ qs) = last_of (r ∷ qs)

-- At most so many states were added since `old`, with 4096 bytes for each and eight less for all: the end, and after it states
-- that are never led on.
pub record HasStates (old new : Assembly) (end : ℕ) (most : ℕ) : Type 0 where
  pub end_is : end ≡ length old.drafts
  pub there : end < length new.drafts
  pub grows : Grows old new
  pub groups_are : new.groups ≡ old.groups
  pub tame : AllTame true (length old.drafts) new
  pub waits : draft_at new.drafts end ≡ empty_draft 0
  pub stands : (q : ℕ) → end < q → q < length new.drafts → stands_for (draft_at new.drafts q) ≡ None
  pub states : length new.drafts ≤ length old.drafts + most
  pub bytes : sum_of_bytes new + 8 + 4096 * length old.drafts ≤ sum_of_bytes old + 4096 * length new.drafts
  pub numbered : length new.drafts ≤ greatest_index + 1

-- What is read along the path, once its last ranges lead on, is what is read by the sequences. One state is for the end, and
-- four for each sequence, of which the path's nodes are still to be made.
pub record IsCompiling (old new : Assembly) (end : ℕ) (compiled : SlotTable (List Transition)) (nodes : List Stage)
    (qs : List (List (ℕ × ℕ))) : Type 0 where
  pub most : ℕ
  pub has : HasStates old new end most
  pub room : most + length nodes ≤ 1 + 4 * length qs
  pub keeps : Keeps new end compiled
  pub rising : StagesRise nodes
  pub path : path_of nodes ≡ last_of qs
  pub limbs : List Limb
  pub nodes_are : nodes ≡ map stage_of limbs
  pub below : LimbsBelow (length new.drafts) limbs
  pub leads : (table : Table) → Finishes end new.drafts end table → LimbsLead old.reverse table end limbs
  pub reads : ReadsAs (whole_tree old.reverse limbs) (alternation (map (read_tree old.reverse) qs))

-- a class is being compiled: some sequences were added since some builder
pub record IsBeingCompiled (b : Assembly) (end : ℕ) (compiled : SlotTable (List Transition)) (nodes : List Stage) : Type 0 where
  pub old : Assembly
  pub before : List (List (ℕ × ℕ))
  pub is : IsCompiling old b end compiled nodes before

-- the sequences may be added after the path, one after the other
abbrev pub CanFollow : List (ℕ × ℕ) → List (List (ℕ × ℕ)) → Type 0
CanFollow p [] = Unit {0}
CanFollow p (q ∷ qs) = (1 ≤ length q) × (length q ≤ 4) × AreBytes q × ComesAfter p q × CanFollow q qs
