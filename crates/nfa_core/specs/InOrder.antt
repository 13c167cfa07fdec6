-- What holds of every builder: the states keep to its size limit, ranges of bytes ascend, and matches are of patterns that exist.
use Rattle.std.specs.Prelude.{ℕ, ◌+◌, ◌<◌, ◌≤◌, Bool, List, length, Option, All, MatchOption, ⊤, if◌then◌else◌}
use Rattle.search_core.specs.Index.{greatest_index}
use Rattle.nfa_core.specs.BuilderStates.{DraftNode, range_draft, sparse_draft, match_draft, AscendsFrom, bytes_of_drafts}

-- ranges of bytes that ascend; a match of a pattern that there is
abbrev pub IsDraftOf : ℕ → DraftNode → Type 0
IsDraftOf patterns (range_draft low high next) = (low ≤ high) × (high < 256)
IsDraftOf patterns (sparse_draft ranges) = AscendsFrom 0 ranges × All (λ r. r.1 < 256) ranges
IsDraftOf patterns (match_draft pattern) = pattern < patterns
IsDraftOf patterns _ = Unit {0}

-- how many patterns there are, with the one that isn't finished
abbrev pub patterns_of : Bool → List ℕ → ℕ
patterns_of is_open starts = if is_open then length starts + 1 else length starts

-- the states, the number of the patterns, and the limit
pub record IsInOrder (drafts : List DraftNode) (patterns : ℕ) (limit : Option ℕ) : Type 0 where
  pub within : MatchOption limit ⊤ (λ most. bytes_of_drafts drafts ≤ most)
  pub parts_of : All (IsDraftOf patterns) drafts
  pub states_numbered : length drafts ≤ greatest_index + 1
  pub patterns_numbered : patterns ≤ greatest_index + 1
