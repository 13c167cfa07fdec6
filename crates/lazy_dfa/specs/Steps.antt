-- The arguments and results of steps over a cache, and what steps change.
use Rattle.std.specs.Prelude.{◌≡◌, ◌≢◌, ◌⊎◌, ◌<◌, ◌≤◌, ◌+◌, ◌*◌, ◌%◌, ℕ, true, false, min, [], ◌∷◌, length, Option, slice_index_or}
use Rattle.std.specs.Prelude.{Bool, Some, None, replicate}
use Rattle.determinize_core.specs.Costs.{free_ways}
use Rattle.determinize_core.specs.StateBytes.{is_match}
use Rattle.determinize_core.specs.States.{StateValue}
use Rattle.lazy_dfa.specs.Dfas.{Dfa, class_of, after, is_dead, IsUnit, IsStateOf}
use Rattle.lazy_dfa.specs.Ids.{tag, has_tag, start_tag, tagged, unknown_id, dead_id, quit_id, is_sentinel}
use Rattle.lazy_dfa.specs.Caches.{CacheValue, IsShaped, IsRow, HeldAt, Names, Leads, id_at, state_at, with_state, cleared, greatest}
use Rattle.lazy_dfa.specs.Caches.{row_holding, begun_anew, needs_clear, has_no_room, fits, is_clear_denied}
use Rattle.lazy_dfa.specs.ConfigValue.{clears_of, minimum_bytes_of}
use Rattle.lazy_dfa.specs.Readers.{is_quit}
use Rattle.lazy_dfa.specs.declared.cache_error.CacheError.{CacheError}
use Rattle.lazy_dfa.specs.declared.cache_error.CacheError.TheVariants.{GaveUp, NoMemory}

-- an ID that is held, from which a step may be made
abbrev pub IsHeld : CacheValue → ℕ → Type 0
IsHeld v id = (id ≡ dead_id v.stride) ⊎ (id ≡ quit_id v.stride) ⊎ IsRow v id

-- where the step from an ID by a unit leads
abbrev pub StepsTo : Dfa → CacheValue → CacheValue → ℕ → Option ℕ → ℕ → Type 0
StepsTo d old new id u r = (s : StateValue) → HeldAt old id s → Leads d new s u r

-- what the cache stores for the step from an ID by a unit: the ID to which it leads, or the unknown one
abbrev pub noted : Dfa → CacheValue → ℕ → Option ℕ → ℕ
noted d v id u = slice_index_or v.cells (id % tag + class_of d.classes u) 0

-- the step is known: its ID is stored, or it starts at a sentinel, which leads to itself
abbrev pub IsKnown : Dfa → CacheValue → ℕ → Option ℕ → Type 0
IsKnown d v id u = (is_sentinel id ≡ true) ⊎ (noted d v id u ≢ unknown_id)

-- if the ID still names its state, the step is stored
abbrev pub IsNoted : Dfa → CacheValue → CacheValue → ℕ → Option ℕ → ℕ → Type 0
IsNoted d old new id u r = (s : StateValue) → HeldAt old id s → HeldAt new id s → noted d new id u ≡ r

-- a state that wasn't held gets no start tag
abbrev pub TagsStep : Dfa → CacheValue → ℕ → Option ℕ → ℕ → Type 0
TagsStep d old id u r = (s : StateValue) → HeldAt old id s → is_quit d.quits u ≡ false → is_dead (after d s u) ≡ false →
    row_holding (after d s u) old.states ≡ None → has_tag start_tag r ≡ false

-- ---- errors

-- why a step fails: an allocation failed, or no clear was allowed for this state
abbrev pub IsCause : Dfa → CacheValue → StateValue → CacheError → Type 0
IsCause d v s e = (e ≡ NoMemory) ⊎ ((e ≡ GaveUp) × (has_no_room d v s ≡ true))

-- The step from an ID by a unit gives up: it isn't known, and the unit isn't a quit byte. The state after the unit has
-- no room, and no clear is allowed.
pub record GivesUp (d : Dfa) (v : CacheValue) (id : ℕ) (u : Option ℕ) : Type 0 where
  pub row : IsRow v id
  pub unknown : noted d v id u ≡ unknown_id
  pub no_quit : is_quit d.quits u ≡ false
  pub lacks : (s : StateValue) → HeldAt v id s → has_no_room d v (after d s u) ≡ true

abbrev pub IsStepCause : Dfa → CacheValue → ℕ → Option ℕ → CacheError → Type 0
IsStepCause d v id u e = (e ≡ NoMemory) ⊎ ((e ≡ GaveUp) × GivesUp d v id u)

-- ---- what calls change

-- The step from an ID by a unit needs a clear: it isn't known, and the unit isn't a quit byte. The state to which it
-- leads isn't held and doesn't fit.
pub record StepNeedsClear (d : Dfa) (v : CacheValue) (id : ℕ) (u : Option ℕ) : Type 0 where
  pub row : IsRow v id
  pub unknown : noted d v id u ≡ unknown_id
  pub no_quit : is_quit d.quits u ≡ false
  pub needs : (s : StateValue) → HeldAt v id s → needs_clear d v (after d s u) ≡ true

-- Nothing was cleared. Each ID names what it named, the stored steps of the rows are as they were, and all known starts
-- are still known.
pub record Added (old new : CacheValue) : Type 0 where
  pub shape : IsShaped old
  pub stride : new.stride ≡ old.stride
  pub names : (id : ℕ) (s : StateValue) → Names old id s → Names new id s
  pub cells : (id c : ℕ) → IsRow old id → c < old.stride → slice_index_or new.cells (id % tag + c) 0 ≡ slice_index_or old.cells
      (id % tag + c) 0
  pub starts : (i : ℕ) → slice_index_or old.starts i 0 ≢ unknown_id → slice_index_or new.starts i 0 ≡ slice_index_or old.starts i 0
  pub clears : new.clears ≡ old.clears
  pub searched : new.searched ≡ old.searched
  pub progress : new.progress ≡ old.progress

-- `Added`, except that further steps and starts may be known
pub record Grew (d : Dfa) (old new : CacheValue) : Type 0 where
  pub names : (id : ℕ) (s : StateValue) → Names old id s → Names new id s
  pub rows : (id : ℕ) → IsRow old id → IsRow new id
  pub known : (id : ℕ) (u : Option ℕ) → IsRow old id → IsUnit u → noted d old id u ≢ unknown_id → noted d new id u ≡ noted d old id u
  pub starts : (i : ℕ) → slice_index_or old.starts i 0 ≢ unknown_id → slice_index_or new.starts i 0 ≡ slice_index_or old.starts i 0
  pub clears : new.clears ≡ old.clears
  pub searched : new.searched ≡ old.searched
  pub progress : new.progress ≡ old.progress

-- The cache was cleared. What it holds now was added after that: at most `most` states.
pub record WasCleared (old new : CacheValue) (most : ℕ) : Type 0 where
  pub clears : new.clears ≡ min (old.clears + 1) greatest
  pub searched : new.searched ≡ 0
  pub progress : new.progress ≡ begun_anew old.progress
  pub few : length new.states ≤ most

-- A step cleared the cache. Two states are held now: the state stepped from, under a new ID that keeps its start tag,
-- and the state stepped to. No start is known.
pub record ClearedFrom (d : Dfa) (old new : CacheValue) (id : ℕ) (u : Option ℕ) : Type 0 where
  pub cleared : WasCleared old new 2
  pub from : (s : StateValue) → HeldAt old id s → id_at new 0 ≡ tagged (has_tag start_tag id) (is_match s.matches) (3 * new.stride)
  pub states : (s : StateValue) → HeldAt old id s → new.states ≡ s ∷ after d s u ∷ []
  pub starts : new.starts ≡ replicate (length old.starts) unknown_id

-- a cache that was cleared, except for the state of a row
abbrev pub kept_alone : CacheValue → ℕ → CacheValue
kept_alone v k = with_state (has_tag start_tag (id_at v k)) (state_at v k) (cleared v)

abbrev pub MadeRoom : CacheValue → CacheValue → Type 0
MadeRoom old new = (new ≡ old) ⊎ WasCleared old new 1

abbrev pub AddsOrClears : CacheValue → CacheValue → Type 0
AddsOrClears old new = Added old new ⊎ WasCleared old new 2

abbrev pub KeepsOrClears : Dfa → CacheValue → CacheValue → Type 0
KeepsOrClears d old new = Grew d old new ⊎ WasCleared old new 2

-- ---- what calls add

-- the same states under the same IDs, and the same number of clears
abbrev pub HasStatesOf : CacheValue → CacheValue → Type 0
HasStatesOf new v = (new.states ≡ v.states) × (new.ids ≡ v.ids) × (new.clears ≡ v.clears)

-- One state is added: it isn't the dead one, it wasn't held, and it has room. `is_start` says whether its ID is tagged
-- as a start.
pub record AddsState (d : Dfa) (is_start : Bool) (s : StateValue) (old new : CacheValue) : Type 0 where
  pub is : IsStateOf d s
  pub alive : is_dead s ≡ false
  pub fresh : row_holding s old.states ≡ None
  pub fits : fits d.capacity s old ≡ true
  pub states : HasStatesOf new (with_state is_start s old)

-- what a clear leaves: the state of a row, if one is to be kept
abbrev pub kept_of : Option ℕ → CacheValue → CacheValue
kept_of None v = cleared v
kept_of (Some k) v = kept_alone v k

-- The cache is cleared for a state that isn't held and has no room, if a clear is allowed. If an allocation fails for
-- the state that is to be kept, no state is kept.
pub record ClearsFor (d : Dfa) (from : Option ℕ) (s : StateValue) (old new : CacheValue) : Type 0 where
  pub is : IsStateOf d s
  pub needs : needs_clear d old s ≡ true
  pub allowed : is_clear_denied (clears_of d.options) (minimum_bytes_of d.options) old ≡ false
  pub left : (new ≡ cleared old) ⊎ (new ≡ kept_of from old)

-- A clear for a state. The state is added after it, unless an allocation fails.
pub record MakesRoom (d : Dfa) (is_start : Bool) (from : Option ℕ) (s : StateValue) (old new : CacheValue) : Type 0 where
  pub middle : CacheValue
  pub clears : ClearsFor d from s old middle
  pub states : HasStatesOf new middle ⊎ HasStatesOf new (with_state is_start s middle)

-- What a call does that comes to a state, from the state of a row or from none. If nothing was cleared (`kept`), it
-- adds nothing or this state. Otherwise it clears the cache for it.
abbrev pub ComesTo : Type 0 → Dfa → Bool → Option ℕ → StateValue → CacheValue → CacheValue → Type 0
ComesTo kept d is_start from s old new =
    (kept × (HasStatesOf new old ⊎ AddsState d is_start s old new)) ⊎ MakesRoom d is_start from s old new

-- A step comes to the state after that of its row, and gives it no start tag. A step by a quit byte adds nothing.
abbrev pub StepAdds : Dfa → CacheValue → CacheValue → ℕ → Option ℕ → Type 0
StepAdds d old new id u = (k : ℕ) → k < length old.states → id ≡ id_at old k →
    (Grew d old new × HasStatesOf new old) ⊎
    ((is_quit d.quits u ≡ false) × ComesTo (Grew d old new) d false (Some k) (after d (state_at old k) u) old new)

-- ---- work

-- the most NFA states that are inserted into sets for one state that is made
abbrev pub most_inserts : Dfa → ℕ
most_inserts d = 3 * length d.nfa.automaton.states + 2 * free_ways d.nfa.automaton
