-- Literals that each span of a tree contains.
use Rattle.std.specs.Prelude.{◌≡◌, ℕ, true, Bool, List}
use Rattle.hir_core.specs.Tree.{Tree}
use Rattle.hir_core.specs.Means.{Looks, Means}
use Rattle.literal_search.specs.Literals.{BeginsBy, IsOneOf, ContainsOne, ListsPrefixes, KeepsAll}
use Rattle.literal_search.specs.declared.required.Required.{Required}
use Rattle.literal_search.specs.declared.sets.Joined.{Joined}

-- what the lists say of the span i..j: it begins with a literal of the first list, it is one if the list is exact, and it contains one of
-- the second list
pub record Describes (r : Required) (h : List ℕ) (i j : ℕ) : Type 0 where
  pub begins : BeginsBy r.begins h i j
  pub exact : r.exact ≡ true → IsOneOf r.begins h i j
  pub inside : ContainsOne r.inside h i j

-- they say it of each span that the tree means, in any haystack, however looks are read
pub record IsRequired (r : Required) (x : Tree) : Type 0 where
  pub describes : (looks : Looks) (h : List ℕ) (i j : ℕ) → Means looks h x i j → Describes r h i j

-- If a span is a literal of the first list, and the next one begins with one of the second, then both together begin with one of the
-- joined list. If the joined list is exact and the next one is a literal of the second list, both together are one of it.
pub record IsJoined (first second : List (List ℕ)) (exact : Bool) (r : Joined) : Type 0 where
  pub begins : (h : List ℕ) (i k j : ℕ) → IsOneOf first h i k → BeginsBy second h k j → BeginsBy r.literals h i j
  pub exactly : (h : List ℕ) (i k j : ℕ) → r.exact ≡ true → IsOneOf first h i k → (exact ≡ true → IsOneOf second h k j) →
      IsOneOf r.literals h i j

-- Each literal of both lists has a prefix in the joined list. If that is exact, both lists were, and it has their literals.
pub record IsUnion (first second : List (List ℕ)) (exact : Bool) (r : Joined) : Type 0 where
  pub first_kept : ListsPrefixes first r.literals
  pub second_kept : ListsPrefixes second r.literals
  pub exactly : r.exact ≡ true → (exact ≡ true) × KeepsAll first r.literals × KeepsAll second r.literals
