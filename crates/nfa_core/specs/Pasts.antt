-- A table, as it fills, with the state that each state of a builder leads past to.
use Rattle.std.specs.Prelude.{◌≡◌, ◌⊎◌, ℕ, zero, suc, ◌<◌, Bool, true, false, List, length, take, get_or, Option, Some, None, is_some}
use Rattle.std.specs.List.{count_by}
use Rattle.nfa_core.specs.BuilderStates.{DraftNode, draft_at}
use Rattle.nfa_core.specs.Renaming.{stands_for, past, kept, new_name}

-- past each state there is one that stands for itself, and what a state stands for is a state
pub record HasPasts (drafts : List DraftNode) : Type 0 where
  pub ends : (q : ℕ) → q < length drafts → stands_for (draft_at drafts (past drafts q)) ≡ None
  pub stays : (q next : ℕ) → q < length drafts → stands_for (draft_at drafts q) ≡ Some next → next < length drafts

-- whether the table has an entry for the state
abbrev pub is_settled : List (Option ℕ) → ℕ → Bool
is_settled table q = is_some (get_or table q None)

-- the table has an entry for the state, or the state stands for itself
abbrev pub EndsWay : List DraftNode → List (Option ℕ) → ℕ → Type 0
EndsWay drafts table q = (is_settled table q ≡ true) ⊎ (stands_for (draft_at drafts q) ≡ None)

-- each entry of the table is right
pub record IsPastTable (drafts : List DraftNode) (table : List (Option ℕ)) : Type 0 where
  pub len : length table ≡ length drafts
  pub right : (q p : ℕ) → get_or table q None ≡ Some p → p ≡ past drafts q

-- the first so many states from this one on have no entry in the table, and each of them stands for the next one
abbrev pub IsOpen : List DraftNode → List (Option ℕ) → ℕ → ℕ → Type 0
IsOpen drafts table zero q = Unit {0}
IsOpen drafts table (suc n) q = (is_settled table q ≡ false) × ((next : ℕ) × (stands_for (draft_at drafts q) ≡ Some next) ×
    IsOpen drafts table n next)

-- how many states have an entry in the table
abbrev pub settled_count : List (Option ℕ) → ℕ
settled_count table = count_by is_some table

-- the name that a table of names has for a state
abbrev pub name_in : List ℕ → ℕ → ℕ
name_in names q = get_or names q 0

-- the table has the name of each state in the automaton
pub record IsNaming (drafts : List DraftNode) (names : List ℕ) : Type 0 where
  pub len : length names ≡ length drafts
  pub right : (q : ℕ) → q < length drafts → name_in names q ≡ new_name drafts q

-- the table has for each state how many before it are kept
pub record IsRanking (drafts : List DraftNode) (ranks : List ℕ) : Type 0 where
  pub len : length ranks ≡ length drafts
  pub right : (q : ℕ) → q < length drafts → name_in ranks q ≡ length (kept (take q drafts))
