-- The arguments and results of start calls.
use Rattle.std.specs.Prelude.{◌≡◌, ◌≢◌, ◌⊎◌, ◌≤◌, ◌+◌, ◌*◌, ℕ, suc, Bool, true, false, [], ◌∷◌, length, replicate, slice_index_or}
use Rattle.std.specs.Prelude.{slice_set, MatchOption, Option, Some, None, if◌then◌else◌}
use Rattle.search_types.specs.Modes.{is_supported}
use Rattle.search_types.specs.declared.anchored.Anchored.{Anchored}
use Rattle.search_types.specs.declared.anchored.Anchored.TheVariants.{No, Yes, Pattern}
use Rattle.determinize_core.specs.StateBytes.{is_match}
use Rattle.determinize_core.specs.States.{StateValue}
use Rattle.determinize_core.specs.Starts.{StartValue, start_of}
use Rattle.lazy_dfa.specs.ConfigValue.{starts_each_of, specializes}
use Rattle.lazy_dfa.specs.Dfas.{Dfa, start_in, first_state, is_dead}
use Rattle.lazy_dfa.specs.Ids.{tag, dead_id, unknown_id, tagged, has_tag, start_tag}
use Rattle.lazy_dfa.specs.Caches.{CacheValue, Names, slot_of_start, id_at, row_holding, new_id, with_state, cleared, needs_clear}
use Rattle.lazy_dfa.specs.Caches.{has_no_room}
use Rattle.lazy_dfa.specs.Readers.{is_quit}
use Rattle.lazy_dfa.specs.Steps.{WasCleared, Grew, HasStatesOf, ComesTo}
use Rattle.lazy_dfa.specs.declared.cache_error.CacheError.{CacheError}
use Rattle.lazy_dfa.specs.declared.cache_error.CacheError.TheVariants.{GaveUp, NoMemory as CacheNoMemory}
use Rattle.lazy_dfa.specs.declared.start_error.StartError.{StartError}
use Rattle.lazy_dfa.specs.declared.start_error.StartError.TheVariants.{Cache, Quit, UnsupportedAnchored, NoMemory}

-- the number of a mode: 0 is unanchored, 1 is anchored, and the others are those of patterns
abbrev pub mode_of : Anchored → ℕ
mode_of No = 0
mode_of Yes = 1
mode_of (Pattern p) = suc (suc p)

-- The error with which a start is rejected, whatever the cache holds. The look-behind byte is checked before the mode.
abbrev pub rejected_by_quit : Bool → ℕ → Option StartError → Option StartError
rejected_by_quit quits b rest = if quits then Some (Quit b) else rest

abbrev pub rejected_by_byte : Dfa → Option ℕ → Option StartError → Option StartError
rejected_by_byte d None rest = rest
rejected_by_byte d (Some b) rest = rejected_by_quit (is_quit d.quits (Some b)) b rest

abbrev pub rejected_mode : Dfa → Anchored → Option StartError
rejected_mode d mode = if is_supported (starts_each_of d.options) mode then None else Some (UnsupportedAnchored mode)

abbrev pub rejected_start : Dfa → StartValue → Option StartError
rejected_start d c = rejected_by_byte d c.look_behind (rejected_mode d c.anchored)

-- the error of a start, from the error of making its state
abbrev pub start_error_of : CacheError → StartError
start_error_of GaveUp = Cache GaveUp
start_error_of CacheNoMemory = NoMemory

-- the ID is that of the state in which the search starts; for a pattern that doesn't exist, it is the dead state's
abbrev pub IsStart : Dfa → CacheValue → StartValue → ℕ → Type 0
IsStart d v c id = MatchOption (start_in d (mode_of c.anchored)) (id ≡ dead_id v.stride)
    (λ q. Names v id (first_state d (start_of d.nfa.terminator c.look_behind) q))

-- ---- what is known of a start

-- the slot of a start call, and the ID that is stored there; if the start isn't known, it is the unknown one
abbrev pub start_slot : Dfa → StartValue → ℕ
start_slot d c = slot_of_start (mode_of c.anchored) (start_of d.nfa.terminator c.look_behind)

abbrev pub start_noted : Dfa → CacheValue → StartValue → ℕ
start_noted d v c = slice_index_or v.starts (start_slot d c) 0

-- the state in which the search starts, from NFA state q
abbrev pub start_first : Dfa → StartValue → ℕ → StateValue
start_first d c q = first_state d (start_of d.nfa.terminator c.look_behind) q

-- a start call has nothing to make: it is rejected, there is no such pattern, or its start is known
abbrev pub IsStartKnown : Dfa → CacheValue → StartValue → Type 0
IsStartKnown d v c = (rejected_start d c ≢ None) ⊎ (start_in d (mode_of c.anchored) ≡ None) ⊎ (start_noted d v c ≢ unknown_id)

-- a start that isn't known has no room, and no clear is allowed
pub record StartGivesUp (d : Dfa) (v : CacheValue) (c : StartValue) : Type 0 where
  pub unknown : start_noted d v c ≡ unknown_id
  pub lacks : MatchOption (start_in d (mode_of c.anchored)) ⊥ (λ q. has_no_room d v (start_first d c q) ≡ true)

-- why a start fails: an allocation failed, or no clear was allowed for the state in which the search starts
abbrev pub IsStartCause : Dfa → CacheValue → StartValue → StartError → Type 0
IsStartCause d v c e = (e ≡ NoMemory) ⊎ ((e ≡ Cache GaveUp) × StartGivesUp d v c)

-- ---- what start calls change

-- a start needs a clear: it isn't known, and its state isn't held and doesn't fit
pub record StartNeedsClear (d : Dfa) (v : CacheValue) (c : StartValue) : Type 0 where
  pub name : ℕ
  pub named : start_in d (mode_of c.anchored) ≡ Some name
  pub unknown : start_noted d v c ≡ unknown_id
  pub needs : needs_clear d v (start_first d c name) ≡ true

-- a state that wasn't held gets the start tag exactly if the options ask for such tags
abbrev pub TagsStart : Dfa → CacheValue → StateValue → ℕ → Type 0
TagsStart d old s id = is_dead s ≡ false → row_holding s old.states ≡ None → has_tag start_tag id ≡ specializes d.options

-- The cache was cleared for the state of a slot. Only this state is held, as a new one, and only its slot is known.
pub record ClearedFor (d : Dfa) (old new : CacheValue) (i : ℕ) (s : StateValue) : Type 0 where
  pub cleared : WasCleared old new 1
  pub states : new.states ≡ s ∷ []
  pub id : id_at new 0 ≡ tagged (specializes d.options) (is_match s.matches) (3 * new.stride)
  pub starts : new.starts ≡ slice_set (replicate (length old.starts) unknown_id) i (id_at new 0)

-- the cache was cleared for the state in which the search starts
pub record StartCleared (d : Dfa) (old new : CacheValue) (c : StartValue) : Type 0 where
  pub name : ℕ
  pub named : start_in d (mode_of c.anchored) ≡ Some name
  pub clears : ClearedFor d old new (start_slot d c) (start_first d c name)

-- A start that isn't rejected comes to its state, whose ID has the start tag if the options ask for such tags. A start
-- that is rejected, or whose pattern doesn't exist, adds nothing.
abbrev pub StartAdds : Dfa → CacheValue → CacheValue → StartValue → Type 0
StartAdds d old new c =
    (Grew d old new × HasStatesOf new old) ⊎
    ((rejected_start d c ≡ None) × ((q : ℕ) × (start_in d (mode_of c.anchored) ≡ Some q) ×
    ComesTo (Grew d old new) d (specializes d.options) None (start_first d c q) old new))

-- How a state gets an ID outside of a step. The state is dead or was held, or it is added, if need be after a clear.
pub data GivesStart (d : Dfa) (old new : CacheValue) (s : StateValue) (id : ℕ) : Type 0 where
  start_found : new ≡ old → (is_dead s ≡ false → row_holding s old.states ≢ None) → GivesStart d old new s id
  start_added : (mid : CacheValue) → (mid ≡ old) ⊎ (mid ≡ cleared old) → length mid.cells + mid.stride ≤ tag →
      new ≡ with_state (specializes d.options) s mid → id ≡ new_id mid (specializes d.options) s → GivesStart d old new s id
