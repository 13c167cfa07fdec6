-- Rounds of a class of characters, read character by character.
use Rattle.std.specs.Prelude.{◌≡◌, ℕ, zero, suc, ◌<◌, ◌≤◌, Bool, true, false, List, [], ◌∷◌, length, ⊤}
use Rattle.search_core.specs.ByteSets.{has}
use Rattle.hir_core.specs.Tree.{Tree, char_class}
use Rattle.hir_core.specs.Means.{Looks, is_member}
use Rattle.hir_core.specs.PreferredEnds.{Ends, preferred_ends}
use Rattle.meta_regex.specs.declared.char_rounds.Round.{Round}
use Rattle.meta_regex.specs.declared.char_rounds.Round.TheVariants.{Missing, To, Unknown}

-- of each scalar that the table has, it says whether it is in one of the ranges
abbrev pub IsTableOf : List Bool → List (ℕ × ℕ) → Type 0
IsTableOf table ranges = (c : ℕ) → c < length table → has table c ≡ is_member ranges c

-- the tree is a class of characters, and this is its table
pub record AreCharsOf (table : List Bool) (x : Tree) : Type 0 where
  pub ranges : List (ℕ × ℕ)
  pub class : x ≡ char_class ranges
  pub read : IsTableOf table ranges

-- a round ends after its start, within the haystack
abbrev pub Advances : List ℕ → ℕ → Round → Type 0
Advances h i (To j) = (i < j) × (j ≤ length h)
Advances h i Missing = ⊤
Advances h i Unknown = ⊤

-- it ends at j, if there is one
abbrev pub EndsAt : ℕ → Round → Type 0
EndsAt j (To k) = k ≡ j
EndsAt j Missing = ⊤
EndsAt j Unknown = ⊤

-- there is a round or none, as this says, or nothing is known
abbrev pub SaysWhether : Bool → Round → Type 0
SaysWhether is (To j) = is ≡ true
SaysWhether is Missing = is ≡ false
SaysWhether is Unknown = ⊤

-- a span of the tree from i on ends at j, and there is no other, or there is none, or nothing is known
abbrev pub IsRoundAt : Tree → List ℕ → ℕ → Round → Type 0
IsRoundAt x h i (To j) = (looks : Looks) → preferred_ends looks h x i ≡ j ∷ []
IsRoundAt x h i Missing = (looks : Looks) → preferred_ends looks h x i ≡ []
IsRoundAt x h i Unknown = ⊤

-- n rounds of one end each lead from i to j
abbrev pub RoundsLead : Ends → ℕ → ℕ → ℕ → Type 0
RoundsLead f zero i j = i ≡ j
RoundsLead f (suc n) i j = (k : ℕ) × (i < k) × (f i ≡ k ∷ []) × RoundsLead f n k j

-- n rounds lead from i to j, and no further one begins there
pub record AreRoundsFrom (x : Tree) (h : List ℕ) (i n j : ℕ) : Type 0 where
  pub within : j ≤ length h
  pub lead : (looks : Looks) → RoundsLead (preferred_ends looks h x) n i j
  pub last : (looks : Looks) → preferred_ends looks h x j ≡ []
