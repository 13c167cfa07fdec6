-- What the start of a search over an input returns, including its errors, and what each start guarantees.
use Rattle.std.specs.Prelude.{◌≡◌, ◌≢◌, ◌⊎◌, ℕ, ◌+◌, ◌≤◌, MatchOption, Some, None, Result, Ok, Err, IfOk, IfErr, OnOk, ⊤}
use Rattle.search_core.specs.Text.{byte_at, byte_before}
use Rattle.search_types.specs.Inputs.{Search}
use Rattle.search_types.specs.declared.match_error.MatchErrorKind.{MatchErrorKind}
use Rattle.search_types.specs.declared.match_error.MatchErrorKind.TheVariants.{Quit as SearchQuit, GaveUp as SearchGaveUp}
use Rattle.search_types.specs.declared.match_error.MatchErrorKind.TheVariants.{UnsupportedAnchored as SearchUnsupportedAnchored}
use Rattle.search_types.specs.declared.match_error.MatchErrorKind.TheVariants.{NoMemory as SearchNoMemory}
use Rattle.determinize_core.specs.Starts.{StartValue}
use Rattle.lazy_dfa.specs.Caches.{CacheValue}
use Rattle.lazy_dfa.specs.Dfas.{Dfa, start_in}
use Rattle.lazy_dfa.specs.Ids.{unknown_id, dead_id}
use Rattle.lazy_dfa.specs.StartCalls.{mode_of, rejected_start, start_noted, start_first, IsStart, IsStartKnown, IsStartCause, StartGivesUp}
use Rattle.lazy_dfa.specs.StartCalls.{TagsStart, StartNeedsClear, StartCleared, StartAdds}
use Rattle.lazy_dfa.specs.Steps.{IsHeld, Grew, WasCleared, most_inserts}
use Rattle.lazy_dfa.specs.declared.start_error.StartError.{StartError}
use Rattle.lazy_dfa.specs.declared.start_error.StartError.TheVariants.{Cache, Quit, UnsupportedAnchored, NoMemory}

-- what a search passes to its start call, forward and in reverse
abbrev pub forward_start : Search → StartValue
forward_start s = record { look_behind = byte_before s.haystack s.start; anchored = s.anchored }

abbrev pub reverse_start : Search → StartValue
reverse_start s = record { look_behind = byte_at s.haystack s.end; anchored = s.anchored }

-- the error of a search at one offset, whose look-behind byte is at another one
abbrev pub error_at : ℕ → ℕ → StartError → MatchErrorKind
error_at quit_place place (Cache e) = SearchGaveUp place
error_at quit_place place (Quit b) = SearchQuit b quit_place
error_at quit_place place (UnsupportedAnchored mode) = SearchUnsupportedAnchored mode
error_at quit_place place NoMemory = SearchNoMemory

-- The result of a start. If the start has an error whatever the cache holds, it is that error. Otherwise it is the ID
-- of the state, or the reason why there is none.
pub record AnswersStart (d : Dfa) (old new : CacheValue) (c : StartValue) (quit_place place : ℕ)
    (r : Result ℕ MatchErrorKind) : Type 0 where
  pub refused : MatchOption (rejected_start d c) ⊤ (λ e. r ≡ Err (error_at quit_place place e))
  pub start : rejected_start d c ≡ None → IfOk r (λ id. IsStart d new c id)
  pub err : rejected_start d c ≡ None → IfErr r (λ k. (e : StartError) × IsStartCause d old c e × (k ≡ error_at quit_place place e))

-- All other guarantees of a start, of a search over an input or not, whatever its errors are. `m1` and `m2` say how
-- many states were made, before and after. `n1` and `n2` say how many NFA states were inserted into sets for them.
pub record MakesStart {E : Type 0} (d : Dfa) (c : StartValue) (old new : CacheValue) (m1 m2 n1 n2 : ℕ) (r : Result ℕ E) : Type 0 where
  -- its ID is held, and is stored as that of the start if there is such a pattern
  pub held : IfOk r (λ id. IsHeld new id)
  pub noted : IfOk r (λ id. (q : ℕ) → start_in d (mode_of c.anchored) ≡ Some q → start_noted d new c ≡ id)
  -- if the cache had an ID for this start, that ID is the result; for a pattern that doesn't exist, it is the dead
  -- state's
  pub known : rejected_start d c ≡ None → (q : ℕ) → start_in d (mode_of c.anchored) ≡ Some q → start_noted d old c ≢ unknown_id →
      r ≡ Ok (start_noted d old c)
  pub none : rejected_start d c ≡ None → start_in d (mode_of c.anchored) ≡ None → r ≡ Ok (dead_id new.stride)
  -- if there is nothing to make, the cache stays as it is, and nothing is made
  pub same : IsStartKnown d old c → new ≡ old
  pub free : IsStartKnown d old c → (m2 ≡ m1) × (n2 ≡ n1)
  -- The cache keeps what it has, or it is cleared because a clear was needed, and holds at most one state. If the start
  -- succeeds after a clear, only its state is left.
  pub kept : Grew d old new ⊎ WasCleared old new 1
  pub remains : OnOk r (Grew d old new ⊎ StartCleared d old new c)
  pub cause : Grew d old new ⊎ StartNeedsClear d old c
  -- it adds no state but its own
  pub adds : StartAdds d old new c
  -- it doesn't succeed where it gives up
  pub ok : OnOk r (¬ StartGivesUp d old c)
  -- a state that wasn't held is tagged as a start exactly if the options ask for it
  pub tag : IfOk r (λ id. (q : ℕ) → start_in d (mode_of c.anchored) ≡ Some q → TagsStart d old (start_first d c q) id)
  -- it makes at most one state, and inserts at most `most_inserts` NFA states into sets for it
  pub determinized : m2 ≤ m1 + 1
  pub inserted : n2 ≤ n1 + most_inserts d
