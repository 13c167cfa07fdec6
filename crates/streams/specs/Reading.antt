-- Reading the bytes of a piece over a cache.
use Rattle.std.specs.Prelude.{◌≡◌, ◌≢◌, ◌+◌, ◌<◌, ◌≤◌, ℕ, List, [], ◌++◌, length, take, Bool, true, false, Some, None, IfSome, slice_get, slice_index, ◌⊎◌, ⊤}
use Rattle.determinize_core.specs.States.{StateValue}
use Rattle.lazy_dfa.specs.Caches.{CacheValue, HeldAt}
use Rattle.lazy_dfa.specs.ConfigValue.{clears_of}
use Rattle.lazy_dfa.specs.Dfas.{Dfa, IsStateOf, after}
use Rattle.streams.specs.Streams.{IsStreamOf, stream_after, stream_ends_at, ends_before, stream_ends, fed}
use Rattle.streams.specs.declared.errors.StreamError.{StreamError}
use Rattle.streams.specs.declared.errors.StreamError.TheVariants.{Quit, GaveUp, NoMemory, NoRoom, Closed, TooLong}
use Rattle.streams.specs.declared.reading.Step.{Step}
use Rattle.streams.specs.declared.reading.Step.TheVariants.{To, Stop}
use Rattle.streams.specs.declared.reading.Stop.{Stop as ReadingStop}
use Rattle.streams.specs.declared.reading.Stop.TheVariants.{Died, Quits, Full, Refused}
use Rattle.streams.specs.declared.reading.Read.{Read}
use Rattle.streams.specs.declared.stream.Point.{Point}
use Rattle.streams.specs.declared.stream.Point.TheVariants.{Closed as ClosedPoint, Dead, Failed, Fresh, Within}
use Rattle.streams.specs.declared.stream.Stream.{Stream}
use Rattle.streams.specs.declared.stream.StreamMatch.{StreamMatch}

-- a stream in this state that has read i bytes
abbrev pub within : StateValue → ℕ → Stream
within s i = record { point = Within s; offset = i }

-- The first n rows are the first `count` ones from before, and these ends after them.
pub record Appends (old new : List StreamMatch) (count n : ℕ) (ends : List StreamMatch) : Type 0 where
  pub count_is : n ≡ count + length ends
  pub fits : n ≤ length old
  pub rows : take n new ≡ take count old ++ ends

-- The ID names the state, at offset `at`, after a stream in state s at offset i read these bytes.
pub record IsAt (d : Dfa) (v : CacheValue) (s : StateValue) (i : ℕ) (bytes : List ℕ) (id at : ℕ) : Type 0 where
  pub state : StateValue
  pub held : HeldAt v id state
  pub is : fed d (within s i) bytes ≡ within state at

-- the errors of steps over a cache; without a limit on clears, none gives up
abbrev pub IsStepError : Dfa → StreamError → Type 0
IsStepError d (Quit b i) = ⊥
IsStepError d Closed = ⊥
IsStepError d TooLong = ⊥
IsStepError d NoRoom = ⊥
IsStepError d GaveUp = clears_of d.options ≢ None
IsStepError d NoMemory = ⊤

-- Why reading ends at a byte in state s at offset i. If the byte wasn't read, the state is still known.
abbrev pub IsReadingStop : Dfa → StateValue → ℕ → ℕ → List StreamMatch → ℕ → ReadingStop → Type 0
IsReadingStop d s i b rows count Died = (stream_after d s i b ≡ record { point = Dead; offset = i + 1 }) × (ends_before d s i b ≡ [])
IsReadingStop d s i b rows count Quits = (stream_after d s i b ≡ record { point = Failed b; offset = i }) × (ends_before d s i b ≡ [])
IsReadingStop d s i b rows count (Full kept) = (kept ≡ s) × IsStateOf d kept × (length rows < count + length (ends_before d s i b))
IsReadingStop d s i b rows count (Refused kept e) = (kept ≡ s) × IsStateOf d kept × IsStepError d e

-- A byte was read from state s at offset i, and its ends were appended. Or the reading ends.
abbrev pub IsByteStep : Dfa → CacheValue → StateValue → ℕ → ℕ → List StreamMatch → List StreamMatch → ℕ → Step → Type 0
IsByteStep d v s i b old new count (To id n) =
    HeldAt v id (after d s (Some b)) × (stream_after d s i b ≡ within (after d s (Some b)) (i + 1)) ×
    Appends old new count n (ends_before d s i b)
IsByteStep d v s i b old new count (Stop stop) = IsReadingStop d s i b old count stop × (new ≡ old)

-- what was read if the reading ends at the byte after k bytes
abbrev pub read_stopped : ℕ → List ℕ → ℕ → ℕ → ReadingStop → Read
read_stopped offset bytes k count Died = record {
  stream = record { point = Dead; offset = offset + length bytes };
  taken = length bytes;
  count = count;
  error = None;
}
read_stopped offset bytes k count Quits = record {
  stream = record { point = Failed (slice_index bytes k); offset = offset + k };
  taken = k + 1;
  count = count;
  error = Some (Quit (slice_index bytes k) (offset + k));
}
read_stopped offset bytes k count (Full s) = record { stream = within s (offset + k); taken = k; count = count; error = None }
read_stopped offset bytes k count (Refused s e) = record { stream = within s (offset + k); taken = k; count = count; error = Some e }

-- No end of the byte after `taken` bytes fits into what is left of the rows.
pub record IsFull (d : Dfa) (s : Stream) (bytes : List ℕ) (taken count room : ℕ) : Type 0 where
  pub byte : ℕ
  pub is : slice_get bytes taken ≡ Some byte
  pub lacks : room < count + length (stream_ends_at d s.point s.offset byte)

-- why fewer bytes were taken than there are, if a step failed or a byte is one at which the automaton gives up
abbrev pub IsReadError : Dfa → Stream → StreamError → Type 0
IsReadError d s (Quit b i) = s ≡ record { point = Failed b; offset = i }
IsReadError d s Closed = ⊥
IsReadError d s TooLong = ⊥
IsReadError d s NoRoom = ⊥
IsReadError d s GaveUp = clears_of d.options ≢ None
IsReadError d s NoMemory = ⊤

abbrev pub is_failed : Point → Bool
is_failed Fresh = false
is_failed (Within s) = false
is_failed Dead = false
is_failed (Failed b) = true
is_failed ClosedPoint = false

-- what was read of a piece by a stream
pub record IsPieceRead (d : Dfa) (s : Stream) (bytes : List ℕ) (old new : List StreamMatch) (r : Read) : Type 0 where
  pub taken : r.taken ≤ length bytes
  pub stream : r.stream ≡ fed d s (take r.taken bytes)
  pub own : IsStreamOf d r.stream
  pub ends : Appends old new 0 r.count (stream_ends d s (take r.taken bytes))
  pub all : r.error ≡ None → (r.taken ≡ length bytes) ⊎ IsFull d r.stream bytes r.taken r.count (length old)
  pub quiet : r.error ≡ None → is_failed r.stream.point ≡ false
  pub err : IfSome r.error (IsReadError d r.stream)
