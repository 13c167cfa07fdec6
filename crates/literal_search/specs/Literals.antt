-- Lists of literals, and where they stand in a haystack.
use Rattle.std.specs.Prelude.{◌≡◌, ◌⊎◌, ℕ, ◌+◌, ◌≤◌, IsTrue, List, [], ◌∷◌, ◌++◌, length}
use Rattle.std.specs.List.{starts_with}
use Rattle.std.specs.Bool.{nat_eq}
use Rattle.hir_core.specs.Means.{stands}

-- the literal is in the list
abbrev pub Listed : List (List ℕ) → List ℕ → Type 0
Listed [] l = ⊥
Listed (x ∷ xs) l = (x ≡ l) ⊎ Listed xs l

-- each literal of the first list is in the second
pub record KeepsAll (old new : List (List ℕ)) : Type 0 where
  pub keeps : (l : List ℕ) → Listed old l → Listed new l

-- a literal of the list is a prefix of the bytes
pub record ListsPrefix (ls : List (List ℕ)) (bytes : List ℕ) : Type 0 where
  pub prefix : List ℕ
  pub listed : Listed ls prefix
  pub begins : IsTrue (starts_with nat_eq bytes prefix)

-- each literal of the first list has a prefix in the second
pub record ListsPrefixes (old new : List (List ℕ)) : Type 0 where
  pub prefixes : (l : List ℕ) → Listed old l → ListsPrefix new l

-- each literal of the first list followed by each of the second is in the third
pub record Crosses (first second new : List (List ℕ)) : Type 0 where
  pub crosses : (a b : List ℕ) → Listed first a → Listed second b → Listed new (a ++ b)

-- one of the literals stands in h at i, and ends by j
pub record BeginsBy (ls : List (List ℕ)) (h : List ℕ) (i j : ℕ) : Type 0 where
  pub literal : List ℕ
  pub listed : Listed ls literal
  pub within : i + length literal ≤ j
  pub there : IsTrue (stands h i literal)

-- the span i..j of h is one of the literals
pub record IsOneOf (ls : List (List ℕ)) (h : List ℕ) (i j : ℕ) : Type 0 where
  pub literal : List ℕ
  pub listed : Listed ls literal
  pub ends : j ≡ i + length literal
  pub there : IsTrue (stands h i literal)

-- one of the literals stands within the span i..j of h
pub record ContainsOne (ls : List (List ℕ)) (h : List ℕ) (i j : ℕ) : Type 0 where
  pub at : ℕ
  pub from : i ≤ at
  pub begins : BeginsBy ls h at j
