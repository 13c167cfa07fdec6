-- The answer that trees define, apart from the preference of ends, which no tree has to have. It has the least start,
-- the first pattern there, and some end that this pattern means.
use Rattle.std.specs.Prelude.{◌≡◌, ℕ, ◌<◌, ◌≤◌, true, length, slice_get, Option, Some, None}
use Rattle.hir_core.specs.Tree.{Tree}
use Rattle.hir_core.specs.Means.{Means}
use Rattle.search_types.specs.Found.{Found}
use Rattle.search_types.specs.Modes.{may_start, allowed}
use Rattle.search_types.specs.Places.{counts}
use Rattle.hir_regex.specs.Choices.{Query}

-- the pattern p means the span from i to j
pub record MeansSpan (q : Query) (p i j : ℕ) : Type 0 where
  pub tree : Tree
  pub listed : slice_get q.patterns p ≡ Some tree
  pub means : Means q.looks q.haystack tree i j

-- the search may find this span, whether its ends count or not
pub record IsFindable (q : Query) (i p j : ℕ) : Type 0 where
  pub may : allowed q.mode (length q.patterns) p ≡ true
  pub span : MeansSpan q p i j
  pub within : j ≤ q.end

-- the search may find this span, and both its ends count
pub record IsCounted (q : Query) (i p j : ℕ) : Type 0 where
  pub findable : IsFindable q i p j
  pub start_counts : counts q.utf8 q.haystack i ≡ true
  pub end_counts : counts q.utf8 q.haystack j ≡ true

-- The span counts. No span that counts starts earlier, and none at the same start is of an earlier pattern.
pub record IsLoose (q : Query) (s : ℕ) (f : Found) : Type 0 where
  pub starts : may_start q.mode s q.end f.start ≡ true
  pub counted : IsCounted q f.start f.pattern f.end
  pub none_before : (i p j : ℕ) → may_start q.mode s q.end i ≡ true → i < f.start → IsCounted q i p j → ⊥
  pub first_pattern : (p j : ℕ) → p < f.pattern → IsCounted q f.start p j → ⊥

abbrev pub IsLooseAnswer : Query → ℕ → Option Found → Type 0
IsLooseAnswer q s None = (i p j : ℕ) → may_start q.mode s q.end i ≡ true → IsCounted q i p j → ⊥
IsLooseAnswer q s (Some f) = IsLoose q s f
