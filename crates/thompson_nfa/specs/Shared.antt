-- What states that are shared read.
use Rattle.std.specs.Prelude.{ℕ, Bool, true, false, List, [], ◌∷◌}
use Rattle.hir_core.specs.BySequences.{range_tree}
use Rattle.hir_core.specs.Tree.{Tree, empty, cat}
use Rattle.nfa_core.specs.Drafted.{Table}
use Rattle.thompson_nfa.specs.Denotes.{Denotes}

-- a byte of the range is read, and then y
abbrev pub read_then : Bool → ℕ × ℕ → Tree → Tree
read_then false r y = cat (range_tree r) y
read_then true r y = cat y (range_tree r)

-- a byte of each range is read, one after the other
abbrev pub read_tree : Bool → List (ℕ × ℕ) → Tree
read_tree back [] = empty
read_tree back (r ∷ q) = read_then back r (read_tree back q)

-- for each transition: a byte of its range is read, and then the tree at the same index
abbrev pub branch_trees : Bool → List (ℕ × ℕ × ℕ) → List Tree → List Tree
branch_trees back [] ys = []
branch_trees back (r ∷ trans) [] = []
branch_trees back ((low, high, next) ∷ trans) (y ∷ ys) = read_then back (low, high) y ∷ branch_trees back trans ys

-- from where each transition leads to e the table does what the tree at the same index means
abbrev pub LeadAll : Bool → Table → ℕ → List (ℕ × ℕ × ℕ) → List Tree → Type 0
LeadAll back table e [] [] = Unit {0}
LeadAll back table e [] (y ∷ ys) = ⊥
LeadAll back table e (r ∷ trans) [] = ⊥
LeadAll back table e ((low, high, next) ∷ trans) (y ∷ ys) = Denotes back table next e y × LeadAll back table e trans ys
