-- Sets of patterns: a list with a test for each pattern from pattern 0 on. Its length is the set's capacity.
use Rattle.std.specs.Prelude.{ℕ, ◌+◌, ◌≡◌, ◌<◌, ◌≤◌, Bool, true, false, not, List, [], ◌∷◌, length, count_by, slice_set}
use Rattle.search_core.specs.ByteSets.{has}

-- how many patterns are in the set
abbrev pub member_count : List Bool → ℕ
member_count set = count_by (λ is_member. is_member) set

-- p and then the others if p is a member; otherwise the others
abbrev pub onto_members : Bool → ℕ → List ℕ → List ℕ
onto_members true p ps = p ∷ ps
onto_members false p ps = ps

-- the patterns of the set, ascending, if its first test is that of the pattern p
abbrev pub members_from : ℕ → List Bool → List ℕ
members_from p [] = []
members_from p (is_member ∷ rest) = onto_members is_member p (members_from (p + 1) rest)

-- the patterns of the set, ascending
abbrev pub members_of : List Bool → List ℕ
members_of set = members_from 0 set

-- the pattern p is added to a set that has room for it, and `added` says whether it was absent
pub record Inserts (old : List Bool) (p : ℕ) (added : Bool) (new : List Bool) : Type 0 where
  pub room : p < length old
  pub reported : added ≡ not (has old p)
  pub set : new ≡ slice_set old p true

-- of a `PatternSetInsertError`: the pattern that was rejected, and the set's capacity
pub record InsertErrorValue : Type 0 where
  pub attempted : ℕ
  pub capacity : ℕ

-- the set has no room for the pattern p, stays as it is, and the error says both numbers
pub record RejectsInsert (old : List Bool) (p : ℕ) (error : InsertErrorValue) (new : List Bool) : Type 0 where
  pub no_room : length old ≤ p
  pub reported : error ≡ record { attempted = p; capacity = length old }
  pub unchanged : new ≡ old
