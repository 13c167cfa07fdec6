-- How trees are split into literals and greedy rounds of classes, one after the other.
use Rattle.std.specs.Prelude.{◌≡◌, ◌++◌, ℕ, ◌<◌, Bool, true, false, not, List, [], ◌∷◌, Option, reverse, ⊤}
use Rattle.search_core.specs.ByteSets.{has}
use Rattle.hir_core.specs.Tree.{Tree, cat}
use Rattle.meta_regex.specs.declared.parts.Part.{Part}
use Rattle.meta_regex.specs.declared.parts.Part.TheVariants.{Literal, Rounds, OneOf}
use Rattle.meta_regex.specs.declared.runs.Run.{Run}
use Rattle.meta_regex.specs.declared.splitting.Beginning.{Beginning}
use Rattle.meta_regex.specs.declared.splitting.Beginning.TheVariants.{Never, Empty, Unknown}
use Rattle.meta_regex.specs.Parts.{AreDecided, AreParts, IsDecided}
use Rattle.meta_regex.specs.Runs.{AreRoundsOf}

-- whether these bytes begin with one that isn't in the set
abbrev pub begins_outside : List ℕ → List Bool → Bool
begins_outside [] set = false
begins_outside (b ∷ bytes) set = not (has set b)

-- no byte is in both sets
pub record IsDisjoint (a b : List Bool) : Type 0 where
  pub apart : (n : ℕ) → n < 256 → has b n ≡ true → has a n ≡ false

-- how rounds begin where a byte of the set is: not at all, or with none if none are needed
abbrev pub IsRoundsBeginning : Run → List Bool → Beginning → Type 0
IsRoundsBeginning r set Never = (0 < r.least) × IsDisjoint r.first set
IsRoundsBeginning r set Empty = (r.least ≡ 0) × IsDisjoint r.first set
IsRoundsBeginning r set Unknown = ⊤

-- how a part begins where a byte of the set is
abbrev pub IsBeginning : Part → List Bool → Beginning → Type 0
IsBeginning (Literal bytes) set Never = begins_outside bytes.items set ≡ true
IsBeginning (Literal bytes) set Empty = ⊥
IsBeginning (Literal bytes) set Unknown = ⊤
IsBeginning (OneOf texts) set Never = ⊥
IsBeginning (OneOf texts) set Empty = ⊥
IsBeginning (OneOf texts) set Unknown = ⊤
IsBeginning (Rounds run most) set beginning = IsRoundsBeginning run set beginning

-- The parts of the tree were put before these. Lists of parts are from the last to the first here.
pub record PutsParts (x : Tree) (old new : List Part) : Type 0 where
  pub puts : (y : Tree) → AreParts (reverse old) y → AreParts (reverse new) (cat x y)
  pub apart : AreDecided (reverse old) → AreDecided (reverse new)

-- rounds of this body were
pub record PutsRounds (least : ℕ) (most : Option ℕ) (body : Tree) (old new : List Part) : Type 0 where
  pub run : Run
  pub is : new ≡ old ++ (Rounds run most) ∷ []
  pub least_is : run.least ≡ least
  pub rounds : AreRoundsOf run body
  pub apart : IsDecided (Rounds run most) (reverse old)
