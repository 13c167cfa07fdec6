-- How calls change a cache from one value to another: which states are made on the way, and where it is cleared.
use Rattle.std.specs.Prelude.{◌≡◌, ◌⊎◌, ℕ, suc, ◌+◌, ◌*◌, ◌<◌, ◌≤◌, Bool, true, false, List, [], ◌∷◌, ◌++◌, length, All, Option, Some, None}
use Rattle.determinize_core.specs.States.{StateValue}
use Rattle.search_types.specs.declared.anchored.Anchored.{Anchored}
use Rattle.search_types.specs.Inputs.{Search}
use Rattle.lazy_dfa.specs.Accounting.{state_cost, longest_state}
use Rattle.lazy_dfa.specs.Caches.{CacheValue, IsCacheOf, state_at, usage, is_clear_denied, needs_clear}
use Rattle.lazy_dfa.specs.ConfigValue.{specializes, clears_of, minimum_bytes_of}
use Rattle.lazy_dfa.specs.Courses.{state_after, AreRead}
use Rattle.lazy_dfa.specs.Dfas.{Dfa, IsStateOf, reader, start_in}
use Rattle.lazy_dfa.specs.Ids.{tag}
use Rattle.lazy_dfa.specs.Linked.{CacheGrows, start_from, scans_of}
use Rattle.lazy_dfa.specs.Scans.{first_value}
use Rattle.lazy_dfa.specs.ScanLaws.{scan_len_of}
use Rattle.lazy_dfa.specs.Readers.{Reader}
use Rattle.lazy_dfa.specs.StartCalls.{mode_of, rejected_start, start_first}
use Rattle.lazy_dfa.specs.Steps.{HasStatesOf, AddsState, MakesRoom}

-- ---- one change after the other

-- the state of a row, or none
abbrev pub row_state : Option ℕ → CacheValue → Option StateValue
row_state None v = None
row_state (Some k) v = Some (state_at v k)

-- The changes from one value of a cache to another. At most n states are made. `Made` describes each of them, together
-- with whether its ID is tagged as a start, and with the state from which the step to it started, or none if it is a
-- start. A state is added if it has room. If it has none and a clear is allowed, the cache is cleared for it. The clear
-- keeps at most the state from which the step started; for a start it keeps none. Between these changes the cache gets
-- no other state.
pub data Changes (d : Dfa) (Made : Bool → Option StateValue → StateValue → Type 0) (old : CacheValue) : CacheValue → ℕ → Type 0 where
  unchanged : (new : CacheValue) (n : ℕ) → new ≡ old → Changes d Made old new n
  keeps : (mid new : CacheValue) (n : ℕ) → Changes d Made old mid n → CacheGrows d mid new → HasStatesOf new mid →
      Changes d Made old new n
  adds : (b : Bool) (o : Option StateValue) (s : StateValue) (mid new : CacheValue) (m n : ℕ) → m < n → Changes d Made old mid m →
      IsCacheOf d mid → Made b o s → CacheGrows d mid new → AddsState d b s mid new → Changes d Made old new n
  clears : (b : Bool) (from : Option ℕ) (s : StateValue) (mid new : CacheValue) (m n : ℕ) → m < n → Changes d Made old mid m →
      IsCacheOf d mid → Made b (row_state from mid) s → MakesRoom d b from s mid new → Changes d Made old new n

-- ---- the states of a course

-- A state after one of the first n units from a state at offset i. All units up to that one are read. The step to it
-- started from the state before that unit.
abbrev pub IsMadeAt : Reader → List ℕ → ℕ → StateValue → ℕ → Bool → Option StateValue → StateValue → Type 0
IsMadeAt r h i v n b o s =
    (b ≡ false) ×
    ((k : ℕ) × (k < n) × AreRead r h i v (suc k) × (o ≡ Some (state_after r h i v k)) × (s ≡ state_after r h i v (suc k)))

-- the state in which a search starts from an offset, if its start isn't rejected
abbrev pub IsMadeFirst : Dfa → Anchored → List ℕ → ℕ → Bool → Option StateValue → StateValue → Type 0
IsMadeFirst d mode h i b o s =
    (b ≡ specializes d.options) × (o ≡ None) × (rejected_start d (start_from (reader d) mode h i) ≡ None) ×
    ((q : ℕ) × (start_in d (mode_of mode) ≡ Some q) × (s ≡ start_first d (start_from (reader d) mode h i) q))

-- a state of a scan, given by its number of bytes and its offset: its first state, or one after a unit that it reads
abbrev pub IsMadeIn : Dfa → Anchored → Bool → List ℕ → ℕ × ℕ → Bool → Option StateValue → StateValue → Type 0
IsMadeIn d mode earliest h p b o s =
    IsMadeFirst d mode h p.1 b o s ⊎
    IsMadeAt (reader d) h p.1 (first_value (reader d) mode h p.1) (scan_len_of (reader d) mode earliest h p.0 p.1) b o s

-- a state of one of these scans
abbrev pub IsMadeAmong : Dfa → Search → List (ℕ × ℕ) → Bool → Option StateValue → StateValue → Type 0
IsMadeAmong d q [] b o s = ⊥
IsMadeAmong d q (p ∷ ps) b o s = IsMadeIn d q.anchored q.earliest q.haystack p b o s ⊎ IsMadeAmong d q ps b o s

-- a state of a half search
abbrev pub IsMadeBy : Dfa → Search → Bool → Option StateValue → StateValue → Type 0
IsMadeBy d q b o s = IsMadeAmong d q (scans_of (reader d) q) b o s

-- ---- room

-- what the longest state adds to the byte count of a cache
abbrev pub greatest_cost : Dfa → ℕ
greatest_cost d = state_cost d.measures.stride (longest_state d.measures)

-- there is room for n more states, whatever they are
abbrev pub HasRoomFor : Dfa → CacheValue → ℕ → Type 0
HasRoomFor d v n =
    (usage v + n * greatest_cost d ≤ d.capacity) × ((length v.states + n + 3) * d.measures.stride ≤ tag)

-- No further clear is allowed: the options set a number of clears, which is reached, and no number of bytes for each
-- state.
abbrev pub IsSpent : Dfa → CacheValue → Type 0
IsSpent d v = (least : ℕ) × (clears_of d.options ≡ Some least) × (minimum_bytes_of d.options ≡ None) × (least ≤ v.clears)

-- The cache was cleared for this state. Up to there nothing was cleared.
pub record FirstClear (d : Dfa) (Made : Bool → Option StateValue → StateValue → Type 0) (old : CacheValue) : Type 0 where
  pub before : CacheValue
  pub grows : CacheGrows d old before
  pub is_start : Bool
  pub from : Option StateValue
  pub state : StateValue
  pub made : Made is_start from state
  pub needs : needs_clear d before state ≡ true
  pub allowed : is_clear_denied (clears_of d.options) (minimum_bytes_of d.options) before ≡ false

-- what was added if nothing was cleared: at most n states, each of which was made
pub record AddsFew (d : Dfa) (Made : Bool → Option StateValue → StateValue → Type 0) (old new : CacheValue) (n : ℕ) : Type 0 where
  pub grows : CacheGrows d old new
  pub added : List StateValue
  pub states : new.states ≡ old.states ++ added
  pub few : length added ≤ n
  pub made : All (λ s. (b : Bool) × (o : Option StateValue) × Made b o s) added
  pub are : All (IsStateOf d) added

-- The last clear left at most the state from which the clearing step started, or nothing if a start cleared the cache.
-- All other states that are held now were made since. The first of them is the state for which the cache was cleared,
-- unless an allocation failed.
pub record LastClear (d : Dfa) (Made : Bool → Option StateValue → StateValue → Type 0) (new : CacheValue) (n : ℕ) : Type 0 where
  pub is_start : Bool
  pub from : Option StateValue
  pub state : StateValue
  pub made : Made is_start from state
  pub kept : List StateValue
  pub alone : (kept ≡ []) ⊎ ((s : StateValue) × (from ≡ Some s) × (kept ≡ s ∷ []))
  pub added : List StateValue
  pub states : new.states ≡ kept ++ added
  pub few : length added ≤ n
  pub since : All (λ s. (b : Bool) × (o : Option StateValue) × Made b o s) added
