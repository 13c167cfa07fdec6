-- What contracts see of a cache, and when a cache belongs to an automaton.
use Rattle.std.specs.Prelude.{◌≡◌, ◌≢◌, ◌<◌, ◌≤◌, ◌+◌, ◌-◌, ◌*◌, ℕ, Bool, true, false, List, [], ◌∷◌, ◌++◌, length, Option, Some, None}
use Rattle.std.specs.Prelude.{slice_index_or, take, replicate, min, not, nat_le, ◌&&◌, is_none, Result, OnOk, OnErr}
use Rattle.std.specs.List.{position_from}
use Rattle.std.specs.Str.{bytes_eq}
use Rattle.std.specs.HashMap.{HashMap, get_by}
use Rattle.determinize_core.specs.States.{StateValue, dead, IsState}
use Rattle.determinize_core.specs.StateBytes.{encoded, is_match}
use Rattle.determinize_core.specs.Starts.{number_of}
use Rattle.determinize_core.specs.declared.start.Start.{Start}
use Rattle.lazy_dfa.specs.Accounting.{fresh_usage, states_cost}
use Rattle.lazy_dfa.specs.ConfigValue.{clears_of, minimum_bytes_of}
use Rattle.lazy_dfa.specs.Dfas.{Dfa, after, first_state, start_in, IsUnit, class_of, IsStateOf, cost, is_dead}
use Rattle.lazy_dfa.specs.Ids.{tag, unknown_id, dead_id, quit_id, tagged}
use Rattle.lazy_dfa.specs.Readers.{is_quit}
use Rattle.lazy_dfa.specs.declared.cache.progress.Progress.{Progress}

-- Rows 0, 1 and 2 are those of the sentinels: unknown, dead and quit. They hold no state. The other rows hold the
-- states, in order.
pub record CacheValue : Type 0 where
  pub states : List StateValue  -- the states of the rows from 3 on
  pub ids : List ℕ  -- their IDs
  pub cells : List ℕ  -- IDs, row after row
  pub starts : List ℕ  -- the IDs of starts, seven for each mode
  pub stride : ℕ  -- how long a row is
  pub fresh : ℕ  -- the bytes that it takes with no states
  pub bound : ℕ  -- for how many states of an NFA it has room to make steps
  pub clears : ℕ
  pub searched : ℕ  -- bytes searched since the last clear, without those of the search that goes on
  pub progress : Option Progress
  pub classes : List ℕ  -- the class of each byte, which is its column

-- the greatest 64-bit number, at which counts stop
abbrev pub greatest : ℕ
greatest = 0xFFFF_FFFF_FFFF_FFFF

abbrev pub id_at : CacheValue → ℕ → ℕ
id_at v k = slice_index_or v.ids k 0

abbrev pub state_at : CacheValue → ℕ → StateValue
state_at v k = slice_index_or v.states k dead

abbrev pub cell_at : CacheValue → ℕ → ℕ → ℕ
cell_at v k c = slice_index_or v.cells ((k + 3) * v.stride + c) 0

-- the ID is that of a row with this state
abbrev pub HeldAt : CacheValue → ℕ → StateValue → Type 0
HeldAt v id s = (k : ℕ) × (k < length v.states) × (id ≡ id_at v k) × (s ≡ state_at v k)

-- the ID is that of a row with a state
abbrev pub IsRow : CacheValue → ℕ → Type 0
IsRow v id = (k : ℕ) × (k < length v.states) × (id ≡ id_at v k)

-- what an ID names
pub data Names (v : CacheValue) (id : ℕ) (s : StateValue) : Type 0 where
  names_dead : id ≡ dead_id v.stride → s ≡ dead → Names v id s
  names_held : HeldAt v id s → Names v id s

-- ---- the invariant of each cache

abbrev pub same : StateValue → StateValue → Bool
same q s = bytes_eq (encoded q) (encoded s)

-- which row holds the state, counted from row 3
unfoldable pub row_holding : StateValue → List StateValue → Option ℕ
row_holding q states = position_from (same q) 0 states

abbrev pub IsTagged : ℕ → ℕ → StateValue → ℕ → Type 0
IsTagged stride k s id = (start : Bool) × (id ≡ tagged start (is_match s.matches) ((k + 3) * stride))

pub record IsShaped (v : CacheValue) : Type 0 where
  pub positive : 0 < v.stride
  pub narrow : v.stride ≤ 512
  pub sized : length v.cells ≡ (length v.states + 3) * v.stride
  pub small : length v.cells ≤ tag
  pub named : length v.ids ≡ length v.states
  pub tags : (k : ℕ) → k < length v.states → IsTagged v.stride k (state_at v k) (id_at v k)
  pub real : (k : ℕ) → k < length v.states → IsState (state_at v k)
  pub apart : (j k : ℕ) → j < k → k < length v.states → same (state_at v k) (state_at v j) ≡ false

-- the map finds each state at its position in the list, and finds no other state
unfoldable pub Agrees : {S : Type 0} → List StateValue → HashMap StateValue ℕ S → Type 0
Agrees states m = (q : StateValue) → get_by (same q) m ≡ position_from (same q) 0 states

-- the bytes that the cache is counted to need
abbrev pub usage : CacheValue → ℕ
usage v = v.fresh + states_cost v.stride v.states

-- The map and the byte count agree with the value.
pub record IsKept {S : Type 0} (v : CacheValue) (rows : HashMap StateValue ℕ S) (used : ℕ) : Type 0 where
  pub shape : IsShaped v
  pub agree : Agrees v.states rows
  pub counted : used ≡ usage v

-- ---- progress

-- the distance between two offsets
abbrev pub distance : ℕ → ℕ → ℕ
distance i j = (i - j) + (j - i)

abbrev pub progress_len : Option Progress → ℕ
progress_len None = 0
progress_len (Some p) = distance p.start p.at

-- the bytes that were searched since the last clear, including those of the running search
abbrev pub search_total_len : CacheValue → ℕ
search_total_len v = min (v.searched + progress_len v.progress) greatest

-- the running search restarts its count at its offset
abbrev pub begun_anew : Option Progress → Option Progress
begun_anew None = None
begun_anew (Some p) = Some (record { start = p.at; at = p.at })

-- the running search has come to this offset
abbrev pub moved_to : ℕ → Option Progress → Option Progress
moved_to at None = None
moved_to at (Some p) = Some (record { start = p.start; at = at })

-- ---- changes

-- the rows of the sentinels, each of which leads to itself
abbrev pub sentinel_rows : ℕ → List ℕ
sentinel_rows stride = replicate stride unknown_id ++ replicate stride (dead_id stride) ++ replicate stride (quit_id stride)

-- a cache that holds no states
abbrev pub empty_cache : ℕ → ℕ → ℕ → ℕ → List ℕ → CacheValue
empty_cache stride fresh starts bound classes = record {
  states = [];
  ids = [];
  cells = sentinel_rows stride;
  starts = replicate starts unknown_id;
  stride = stride;
  fresh = fresh;
  bound = bound;
  clears = 0;
  searched = 0;
  progress = None;
  classes = classes;
}

-- one more state: its ID, and the cache with a row for it of which no step is known
abbrev pub new_id : CacheValue → Bool → StateValue → ℕ
new_id v start s = tagged start (is_match s.matches) (length v.cells)

abbrev pub with_state : Bool → StateValue → CacheValue → CacheValue
with_state start s v = record v {
  states = v.states ++ s ∷ [];
  ids = v.ids ++ new_id v start s ∷ [];
  cells = v.cells ++ replicate v.stride unknown_id;
}

-- a clear: the cache forgets its states
abbrev pub cleared : CacheValue → CacheValue
cleared v = record v {
  states = [];
  ids = [];
  cells = take (3 * v.stride) v.cells;
  starts = replicate (length v.starts) unknown_id;
  clears = min (v.clears + 1) greatest;
  searched = 0;
  progress = begun_anew v.progress;
}

-- whether there is room for the state
abbrev pub fits : ℕ → StateValue → CacheValue → Bool
fits capacity s v = nat_le (usage v + cost v.stride s) capacity && nat_le (length v.cells + v.stride) tag

abbrev pub Fits : ℕ → StateValue → CacheValue → Type 0
Fits capacity s v = (usage v + cost v.stride s ≤ capacity) × (length v.cells + v.stride ≤ tag)

-- whether so many bytes were searched since the last clear that another clear is worth it
abbrev pub pays_off : Option ℕ → CacheValue → Bool
pays_off None v = false
pays_off (Some least) v = nat_le (min (least * (length v.states + 3)) greatest) (search_total_len v)

-- whether a clear isn't allowed
abbrev pub is_clear_denied : Option ℕ → Option ℕ → CacheValue → Bool
is_clear_denied None bytes v = false
is_clear_denied (Some least) bytes v = nat_le least v.clears && not (pays_off bytes v)

-- whether a state isn't held and doesn't fit, so that it needs a clear
abbrev pub needs_clear : Dfa → CacheValue → StateValue → Bool
needs_clear d v s = not (is_dead s) && (is_none (row_holding s v.states) && not (fits d.capacity s v))

-- whether a state isn't held and doesn't fit, and no clear is allowed that makes room for it
abbrev pub has_no_room : Dfa → CacheValue → StateValue → Bool
has_no_room d v s = not (is_dead s) && (is_none (row_holding s v.states) && (not (fits d.capacity s v)
    && is_clear_denied (clears_of d.options) (minimum_bytes_of d.options) v))

-- ---- the cache of an automaton

-- where a state leads by a unit: by a quit byte to the quit sentinel, else to an ID of the state after the unit
pub record Leads (d : Dfa) (v : CacheValue) (s : StateValue) (u : Option ℕ) (id : ℕ) : Type 0 where
  pub quits : is_quit d.quits u ≡ true → id ≡ quit_id v.stride
  pub goes : is_quit d.quits u ≡ false → Names v id (after d s u)

-- the slot of a start in a mode
abbrev pub slot_of_start : ℕ → Start → ℕ
slot_of_start m s = m * 7 + number_of s

-- the ID is that of the state in which a search starts
abbrev pub Begins : Dfa → CacheValue → ℕ → Start → ℕ → Type 0
Begins d v m s id = (q : ℕ) → start_in d m ≡ Some q → Names v id (first_state d s q)

-- The cache was made for the automaton, or reset to it. Each call preserves this, whatever its result is.
pub record IsCacheOf (d : Dfa) (v : CacheValue) : Type 0 where
  pub shape : IsShaped v
  pub stride : v.stride ≡ d.measures.stride
  pub fresh : v.fresh ≡ fresh_usage d.measures
  pub bound : v.bound ≡ length d.nfa.automaton.states
  pub classes : v.classes ≡ d.classes
  pub slots : length v.starts ≡ d.measures.starts
  pub within : usage v ≤ d.capacity
  pub lives : (k : ℕ) → k < length v.states → state_at v k ≢ dead
  pub states : (k : ℕ) → k < length v.states → IsStateOf d (state_at v k)
  pub steps : (k : ℕ) (u : Option ℕ) → k < length v.states → IsUnit u →
      cell_at v k (class_of d.classes u) ≢ unknown_id → Leads d v (state_at v k) u (cell_at v k (class_of d.classes u))
  pub starts : (m : ℕ) (s : Start) → slot_of_start m s < length v.starts → slice_index_or v.starts (slot_of_start m s) 0 ≢ unknown_id →
      Begins d v m s (slice_index_or v.starts (slot_of_start m s) 0)

-- a cache as it is made for an automaton
abbrev pub made_for : Dfa → CacheValue
made_for d = empty_cache d.measures.stride (fresh_usage d.measures) d.measures.starts d.measures.states d.classes

-- What a call leaves that resets a cache to one for an automaton. If memory runs out, it is as it was.
pub record ResetsTo {A E : Type 0} (d : Dfa) (old new : CacheValue) (result : Result A E) : Type 0 where
  pub value : OnOk result (new ≡ made_for d)
  pub own : OnOk result (IsCacheOf d new)
  pub err : OnErr result (new ≡ old)
