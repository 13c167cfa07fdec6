-- What the calls guarantee that make room for a state or add it: about their results, the cache and their work. In all
-- of them `s` is that state.
use Rattle.std.specs.Prelude.{◌≡◌, ◌≢◌, ◌⊎◌, ℕ, ◌+◌, ◌≤◌, false, true, length, slice_index_or, None, Some}
use Rattle.std.specs.Prelude.{Result, Ok, Err, IfOk, OnOk, IfErr, OnErr}
use Rattle.determinize_core.specs.States.{StateValue}
use Rattle.lazy_dfa.specs.Caches.{CacheValue, HeldAt, Names, Fits, row_holding, state_at, with_state, cleared, needs_clear, has_no_room}
use Rattle.lazy_dfa.specs.ConfigValue.{specializes}
use Rattle.lazy_dfa.specs.declared.cache_error.CacheError.{CacheError}
use Rattle.lazy_dfa.specs.declared.cache_error.CacheError.TheVariants.{GaveUp}
use Rattle.lazy_dfa.specs.Dfas.{Dfa, is_dead}
use Rattle.lazy_dfa.specs.Ids.{unknown_id, has_tag, start_tag}
use Rattle.lazy_dfa.specs.StartCalls.{GivesStart, ClearedFor, TagsStart}
use Rattle.lazy_dfa.specs.Steps.{IsCause, Added, Grew, WasCleared, ClearsFor, HasStatesOf, ComesTo, MadeRoom, AddsOrClears, kept_alone}
use Rattle.lazy_dfa.specs.Steps.{most_inserts}

-- ---- results

-- The call fails if the state has no room and no clear is allowed. Otherwise it fails only if an allocation fails.
pub record FindsRoom {A : Type 0} (d : Dfa) (s : StateValue) (old : CacheValue) (r : Result A CacheError) : Type 0 where
  pub ok : OnOk r (has_no_room d old s ≡ false)
  pub err : IfErr r (λ e. IsCause d old s e)

-- if the call succeeds, the cache doesn't hold the state and has room for it
pub record LeavesRoom {A : Type 0} (d : Dfa) (s : StateValue) (new : CacheValue) (r : Result A CacheError) : Type 0 where
  pub fresh : OnOk r (row_holding s new.states ≡ None)
  pub fits : OnOk r (Fits d.capacity s new)

-- ID i names the state of row k, and ID j the one to which a step leads. If that state wasn't held, its ID
-- has no start tag.
pub record NamesStep (k : ℕ) (s : StateValue) (old new : CacheValue) (i j : ℕ) : Type 0 where
  pub from : HeldAt new i (state_at old k)
  pub to : Names new j s
  pub tag : is_dead s ≡ false → row_holding s old.states ≡ None → has_tag start_tag j ≡ false

-- the ID names the state in which a search starts, which was found or added
pub record NamesStart (d : Dfa) (s : StateValue) (old new : CacheValue) (id : ℕ) : Type 0 where
  pub to : Names new id s
  pub made : GivesStart d old new s id

-- The ID of the start in slot i, or the reason why there is none.
pub record AnswersSlot (d : Dfa) (i : ℕ) (s : StateValue) (old new : CacheValue) (r : Result ℕ CacheError) : Type 0 where
  -- the ID names the state, and is stored in the slot
  pub start : IfOk r (λ id. Names new id s)
  pub noted : IfOk r (λ id. slice_index_or new.starts i 0 ≡ id)
  -- if the slot had an ID, that ID is the result
  pub known : slice_index_or old.starts i 0 ≢ unknown_id → r ≡ Ok (slice_index_or old.starts i 0)
  -- if the state wasn't held, its ID has the start tag exactly if the options ask for such tags
  pub tag : IfOk r (λ id. TagsStart d old s id)
  -- It fails only if the slot had no ID, and if the state has no room or an allocation fails.
  pub unknown : OnErr r (slice_index_or old.starts i 0 ≡ unknown_id)
  pub ok : OnOk r (slice_index_or old.starts i 0 ≡ unknown_id → has_no_room d old s ≡ false)
  pub err : IfErr r (λ e. IsCause d old s e)

-- ---- what calls change

-- Room for a state to which a step leads. The cache is as it was, or it was cleared except for the state of row k,
-- since the state needs a clear. A call that gives up changes nothing.
pub record ClearsBeside {A : Type 0} (d : Dfa) (k : ℕ) (s : StateValue) (old new : CacheValue) (r : Result A CacheError) : Type 0 where
  pub room : MadeRoom old new
  pub made : OnOk r ((new ≡ old) ⊎ (new ≡ kept_alone old k))
  pub cause : (new ≡ old) ⊎ (needs_clear d old s ≡ true)
  pub clears : (new ≡ old) ⊎ ClearsFor d (Some k) s old new
  pub gave_up : r ≡ Err GaveUp → new ≡ old

-- Room for a state in which a search starts. The cache is as it was, or the whole cache was cleared, since the state
-- needs a clear. A call that fails changes nothing.
pub record ClearsAll {A : Type 0} (d : Dfa) (s : StateValue) (old new : CacheValue) (r : Result A CacheError) : Type 0 where
  pub slots : length new.starts ≡ length old.starts
  pub room : (new ≡ old) ⊎ (new ≡ cleared old)
  pub cause : (new ≡ old) ⊎ (needs_clear d old s ≡ true)
  pub clears : (new ≡ old) ⊎ ClearsFor d None s old new
  pub err_same : OnErr r (new ≡ old)

-- The state to which a step leads is added if it isn't held, if need be after a clear that keeps the state of row k. A
-- call that gives up changes nothing.
pub record AddsBeside {A : Type 0} (d : Dfa) (k : ℕ) (s : StateValue) (old new : CacheValue) (r : Result A CacheError) : Type 0 where
  pub kept : AddsOrClears old new
  pub made : OnOk r (Added old new ⊎ (new ≡ with_state false s (kept_alone old k)))
  pub cause : Added old new ⊎ (needs_clear d old s ≡ true)
  pub adds : ComesTo (Added old new) d false (Some k) s old new
  pub gave_up : r ≡ Err GaveUp → new ≡ old

-- The state in which a search starts is added if it isn't held, if need be after a clear of the whole cache. A call that
-- gives up changes nothing.
pub record AddsAlone {A : Type 0} (d : Dfa) (s : StateValue) (old new : CacheValue) (r : Result A CacheError) : Type 0 where
  pub slots : length new.starts ≡ length old.starts
  pub unmade : OnErr r ((new ≡ old) ⊎ (new ≡ cleared old))
  pub cause : Added old new ⊎ (needs_clear d old s ≡ true)
  pub adds : ComesTo (Added old new) d (specializes d.options) None s old new
  pub gave_up : r ≡ Err GaveUp → new ≡ old

-- what the start in slot i changes in the cache
pub record ChangesSlot (d : Dfa) (i : ℕ) (s : StateValue) (old new : CacheValue) (r : Result ℕ CacheError) : Type 0 where
  -- if the slot had an ID, nothing
  pub same : slice_index_or old.starts i 0 ≢ unknown_id → new ≡ old
  -- The cache keeps what it has, or it was cleared since the slot had no ID and the state needs a clear. If the call
  -- succeeds after a clear, only the state is left.
  pub kept : Grew d old new ⊎ WasCleared old new 1
  pub remains : OnOk r (Grew d old new ⊎ ClearedFor d old new i s)
  pub cause : Grew d old new ⊎ ((slice_index_or old.starts i 0 ≡ unknown_id) × (needs_clear d old s ≡ true))
  -- it adds no other state
  pub adds : (Grew d old new × HasStatesOf new old) ⊎ ComesTo (Grew d old new) d (specializes d.options) None s old new
  -- a call that gives up changes nothing
  pub gave_up : r ≡ Err GaveUp → new ≡ old

-- ---- work

-- The start in slot i makes nothing if the slot has an ID. Otherwise it makes at most one state, and inserts at most
-- `most_inserts` NFA states into sets for it. `m1` and `m2` say how many states were made, before and after. `n1` and
-- `n2` say how many NFA states were inserted.
pub record MakesSlot (d : Dfa) (i : ℕ) (old : CacheValue) (m1 m2 n1 n2 : ℕ) : Type 0 where
  pub free : slice_index_or old.starts i 0 ≢ unknown_id → (m2 ≡ m1) × (n2 ≡ n1)
  pub determinized : m2 ≤ m1 + 1
  pub inserted : n2 ≤ n1 + most_inserts d
