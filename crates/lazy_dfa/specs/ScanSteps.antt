-- One turn of a scan: a step of its cache by a unit, and what the new state means for the scan.
use Rattle.std.specs.Prelude.{◌≡◌, ◌⊎◌, ℕ, suc, ◌+◌, ◌*◌, ◌≤◌, ◌&&◌, not, Bool, true, false, List, Option, Some, Result, Ok, Err}
use Rattle.std.specs.Prelude.{IsSome}
use Rattle.search_core.specs.ByteSets.{has}
use Rattle.nfa_core.specs.Ways.{offset_of}
use Rattle.determinize_core.specs.States.{StateValue}
use Rattle.lazy_dfa.specs.AnewProgress.{progress_anew}
use Rattle.lazy_dfa.specs.Caches.{CacheValue, HeldAt, IsRow, Names, has_no_room}
use Rattle.lazy_dfa.specs.Changes.{Changes, IsMadeAt}
use Rattle.lazy_dfa.specs.Courses.{state_after, stops_after}
use Rattle.lazy_dfa.specs.declared.cache_error.CacheError.{CacheError}
use Rattle.lazy_dfa.specs.declared.cache_error.CacheError.TheVariants.{GaveUp, NoMemory}
use Rattle.lazy_dfa.specs.declared.search.scan_steps.Seen.{Seen}
use Rattle.lazy_dfa.specs.declared.search.scan_steps.Turn.{Turn}
use Rattle.lazy_dfa.specs.declared.search.scan_steps.Turn.TheVariants.{GoesOn, Ends, Quits}
use Rattle.lazy_dfa.specs.Dfas.{Dfa, reader}
use Rattle.lazy_dfa.specs.Ids.{dead_id, quit_id}
use Rattle.lazy_dfa.specs.Linked.{IsLinkedOver, HasCleared, GrowsOrClears, IsMoved}
use Rattle.lazy_dfa.specs.Scans.{is_empty, is_dead, best_recorded}
use Rattle.lazy_dfa.specs.Points.{Point, GoesTo, point}
use Rattle.lazy_dfa.specs.Readers.{is_quit}
use Rattle.lazy_dfa.specs.SearchAnswers.{pair_of, progress_of}
use Rattle.lazy_dfa.specs.Steps.{most_inserts}

-- What a held ID means for a scan that came to it by the unit at an offset. At the dead state the scan ends. At the
-- quit sentinel the unit is a quit byte. At any other state, the match of the state is recorded.
pub data Sees (v : CacheValue) (id place : ℕ) (best : Option (ℕ × ℕ)) (earliest : Bool) (seen : Seen) : Type 0 where
  sees_dead : id ≡ dead_id v.stride → seen.id ≡ id → seen.turn ≡ Ends → pair_of seen.best ≡ best → Sees v id place best earliest seen
  sees_quit : id ≡ quit_id v.stride → seen.turn ≡ Quits → Sees v id place best earliest seen
  sees_end : (s : StateValue) → HeldAt v id s → seen.id ≡ id → seen.turn ≡ Ends → pair_of seen.best ≡ best_recorded place s best →
      (earliest && not (is_empty s.matches)) ≡ true → Sees v id place best earliest seen
  sees_on : (s : StateValue) → HeldAt v id s → seen.id ≡ id → seen.turn ≡ GoesOn → pair_of seen.best ≡ best_recorded place s best →
      (earliest && not (is_empty s.matches)) ≡ false → Sees v id place best earliest seen

-- The cache and the work after k units from a point and one more unit, whether that one was read or not.
pub record Leaves (d : Dfa) (h : List ℕ) (from : Point) (new : CacheValue) (m n k : ℕ) : Type 0 where
  pub kept : GrowsOrClears d from.cache new
  pub free : IsLinkedOver d from.cache h from.at from.id (suc k) → IsMoved from.cache new × (m ≡ from.determinized) × (n ≡ from.inserted)
  pub determinized : m ≤ from.determinized + suc k
  pub inserted : n ≤ from.inserted + suc k * most_inserts d
  pub changes : (s : StateValue) → Names from.cache from.id s → Changes d (IsMadeAt (reader d) h from.at s (suc k)) from.cache new (suc k)

-- `Leaves` holds, and the path through these units isn't known
pub record FailsOn (d : Dfa) (h : List ℕ) (from : Point) (new : CacheValue) (m n k : ℕ) : Type 0 where
  pub leaves : Leaves d h from new m n k
  pub unknown : ¬ IsLinkedOver d from.cache h from.at from.id (suc k)

-- if the cache had a running search, it still has one
abbrev pub StaysRunning : CacheValue → CacheValue → Type 0
StaysRunning old new = IsSome old.progress → IsSome new.progress

-- the progress is as before, or the cache was cleared
abbrev pub ReportsTheSame : CacheValue → CacheValue → Type 0
ReportsTheSame old new = ((progress_of new ≡ progress_of old) × (new.clears ≡ old.clears)) ⊎
    (HasCleared old new × (progress_of new ≡ progress_anew (progress_of old)))

-- the scan goes to another point by one unit
abbrev pub GoesOne : Dfa → List ℕ → Point → CacheValue → ℕ → ℕ → ℕ → Option (ℕ × ℕ) → Type 0
GoesOne d h from new m n id best = GoesTo d h from (point new m n (offset_of d.nfa.automaton.reverse from.at 1) id best) 1

-- what was read at a point, by the outcome of the turn
abbrev pub IsSeen : Dfa → Bool → List ℕ → Option ℕ → Point → CacheValue → ℕ → ℕ → ℕ → Option (ℕ × ℕ) → Turn → Type 0
IsSeen d earliest h u from new m n id best GoesOn =
    GoesOne d h from new m n id best × ReportsTheSame from.cache new × IsRow new id ×
    ((s : StateValue) → HeldAt from.cache from.id s → stops_after (reader d) earliest h from.at s 0 ≡ false)
IsSeen d earliest h u from new m n id best Ends =
    GoesOne d h from new m n id best × ReportsTheSame from.cache new ×
    ((s : StateValue) → HeldAt from.cache from.id s →
    (stops_after (reader d) earliest h from.at s 0 ≡ true) ⊎ (is_dead (state_after (reader d) h from.at s 1) ≡ true))
IsSeen d earliest h u from new m n id best Quits =
    Leaves d h from new m n 0 × StaysRunning from.cache new × ((b : ℕ) × (u ≡ Some b) × (has d.quits b ≡ true)) ×
    ReportsTheSame from.cache new

-- one turn from a point, by the unit there
abbrev pub IsTurn : Dfa → Bool → List ℕ → Option ℕ → Point → CacheValue → ℕ → ℕ → Result Seen CacheError → Type 0
IsTurn d earliest h u from new m n (Ok seen) = IsSeen d earliest h u from new m n seen.id (pair_of seen.best) seen.turn
IsTurn d earliest h u from new m n (Err NoMemory) = FailsOn d h from new m n 0 × StaysRunning from.cache new × ReportsTheSame from.cache new
IsTurn d earliest h u from new m n (Err GaveUp) =
    FailsOn d h from new m n 0 × (is_quit d.quits u ≡ false) ×
    ((s : StateValue) → HeldAt from.cache from.id s → has_no_room d new (state_after (reader d) h from.at s 1) ≡ true) × (new ≡ from.cache)
