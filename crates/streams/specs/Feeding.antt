-- What the calls of a stream do.
use Rattle.std.specs.Prelude.{◌≡◌, ◌≢◌, ◌⊎◌, ◌<◌, ◌≤◌, ℕ, List, [], length, take, Result, Ok, Err, IfOk, IfErr, Option, Some, None, MatchOption, ⊤, ◌==◌, true, false, if◌then◌else◌}
use Rattle.determinize_core.specs.States.{StateValue}
use Rattle.lazy_dfa.specs.Caches.{CacheValue, HeldAt, Names}
use Rattle.lazy_dfa.specs.Dfas.{Dfa, after, is_dead}
use Rattle.streams.specs.Errors.{IsStreamError}
use Rattle.streams.specs.Reading.{Appends, IsFull, is_failed}
use Rattle.streams.specs.Streams.{stream_ends, fed, first_state_of, last_ends, last_patterns, point_in}
use Rattle.streams.specs.declared.errors.StreamError.{StreamError}
use Rattle.streams.specs.declared.errors.StreamError.TheVariants.{Closed as ClosedError, GaveUp, NoMemory, NoRoom, Quit, TooLong}
use Rattle.streams.specs.declared.reading.Read.{Read}
use Rattle.lazy_dfa.specs.ConfigValue.{clears_of}
use Rattle.streams.specs.declared.feeding.Fed.{Fed}
use Rattle.streams.specs.declared.stream.Point.{Point}
use Rattle.streams.specs.declared.stream.Point.TheVariants.{Closed, Dead, Failed, Fresh, Within}
use Rattle.streams.specs.declared.stream.Stream.{Stream}
use Rattle.streams.specs.declared.stream.StreamMatch.{StreamMatch}

-- the state in which a stream reads on
abbrev pub state_in : Dfa → Point → Option StateValue
state_in d Fresh = Some (first_state_of d)
state_in d (Within s) = Some s
state_in d Dead = None
state_in d (Failed b) = None
state_in d Closed = None

-- A stream that may read on: it hasn't failed, and isn't closed.
abbrev pub IsOpenPoint : Point → Type 0
IsOpenPoint Fresh = ⊤
IsOpenPoint (Within s) = ⊤
IsOpenPoint Dead = ⊤
IsOpenPoint (Failed b) = ⊥
IsOpenPoint Closed = ⊥

-- a stream that knows the state in which it begins
abbrev pub begun_point : Dfa → Point → Point
begun_point d Fresh = point_in (first_state_of d)
begun_point d (Within s) = Within s
begun_point d Dead = Dead
begun_point d (Failed b) = Failed b
begun_point d Closed = Closed

abbrev pub begun_stream : Dfa → Point → ℕ → Stream
begun_stream d p i = record { point = begun_point d p; offset = i }

-- a stream after what was read, which is as it was if that is nothing
abbrev pub settled : Stream → Read → Stream
settled old r = if r.taken == 0 then old else r.stream

abbrev pub outcome_of : Option StreamError → Result ⊤ StreamError
outcome_of None = Ok tt
outcome_of (Some e) = Err e

-- why the ends at the end of the input aren't written: they have no room and are counted, or a step failed
abbrev pub IsLastError : Dfa → List StreamMatch → ℕ → ℕ → StreamError → Type 0
IsLastError d ends room count NoRoom = (count ≡ length ends) × (room < count)
IsLastError d ends room count (Quit b i) = ⊥
IsLastError d ends room count ClosedError = ⊥
IsLastError d ends room count GaveUp = (count ≡ 0) × (clears_of d.options ≢ None)
IsLastError d ends room count NoMemory = count ≡ 0
IsLastError d ends room count TooLong = ⊥

-- The ID names the state in which a stream reads on. None: it is in no state.
abbrev pub IsNamed : Dfa → CacheValue → Point → Option ℕ → Type 0
IsNamed d v p (Some id) = MatchOption (state_in d p) ⊥ (λ s. Names v id s)
IsNamed d v p None = MatchOption (state_in d p) ⊤ (λ s. ⊥)

-- The ID is that of the state in which a stream reads on. None: it is in no state, or in the dead one.
abbrev pub IsEntered : Dfa → CacheValue → Point → Option ℕ → Type 0
IsEntered d v p (Some id) = MatchOption (state_in d p) ⊥ (λ s. HeldAt v id s)
IsEntered d v p None = MatchOption (state_in d p) ⊤ (λ s. is_dead s ≡ true)

-- The ID is that of the state after the end of the input, where a stream reads on in such a state. None: no pattern matches there.
abbrev pub IsLast : Dfa → CacheValue → Point → Option ℕ → Type 0
IsLast d v p (Some id) = MatchOption (state_in d p) ⊥ (λ s. (is_dead s ≡ false) × HeldAt v id (after d s None))
IsLast d v p None = MatchOption (state_in d p) ⊤ (λ s. last_patterns d s ≡ [])

-- A stream read the first `taken` bytes of a piece and wrote the ends that these bytes decide to the first `count` rows.
pub record IsFed (d : Dfa) (old new : Stream) (bytes : List ℕ) (rows after : List StreamMatch) (f : Fed) (r : Result ⊤ StreamError) : Type 0 where
  pub taken : f.taken ≤ length bytes
  pub stream : new ≡ fed d old (take f.taken bytes)
  pub ends : Appends rows after 0 f.count (stream_ends d old (take f.taken bytes))
  -- if there is no error, all were read, or the ends of the next byte have no room
  pub all : IfOk r (λ _. (f.taken ≡ length bytes) ⊎ IsFull d new bytes f.taken f.count (length rows))
  pub quiet : IfOk r (λ _. is_failed new.point ≡ false)
  pub err : IfErr r (IsStreamError d old new (length bytes))

-- A stream is closed, and the ends at the end of its input are the first `count` rows. Or they have no room, and it is as it was.
pub record IsStreamClosed (d : Dfa) (old new : Stream) (rows after : List StreamMatch) (count : ℕ) (r : Result ⊤ StreamError) : Type 0 where
  pub stream : IfOk r (λ _. new ≡ record { point = Closed; offset = old.offset })
  pub ends : IfOk r (λ _. Appends rows after 0 count (last_ends d old))
  pub not_closed : IfOk r (λ _. IsOpenPoint old.point)
  pub none : IfErr r (λ e. e ≢ NoRoom → count ≡ 0)
  pub lacks : r ≡ Err NoRoom → (count ≡ length (last_ends d old)) × (length rows < count)
  pub same : IfErr r (λ _. new ≡ old)
  pub err : IfErr r (λ e. (e ≡ NoRoom) ⊎ IsStreamError d old new 0 e)
