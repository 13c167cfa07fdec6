-- What the calls of a stream do that reads its input line by line.
use Rattle.std.specs.Prelude.{◌≡◌, ◌≢◌, ◌⊎◌, ◌+◌, ◌<◌, ◌≤◌, ℕ, false, List, ◌∷◌, [], length, take, ◌==◌, slice_get, Some, Result, Ok, Err, IfOk, IfErr, ⊤}
use Rattle.lazy_dfa.specs.Dfas.{Dfa}
use Rattle.streams.specs.Errors.{IsStreamError}
use Rattle.streams.specs.Feeding.{IsOpenPoint}
use Rattle.streams.specs.Lines.{fed_lines, last_line_ends, ends_in_lines, ends_in_lines_at, next_line_at}
use Rattle.streams.specs.Reading.{Appends, IsReadError, is_failed}
use Rattle.streams.specs.Streams.{last_ends}
use Rattle.streams.specs.declared.errors.StreamError.{StreamError}
use Rattle.streams.specs.declared.errors.StreamError.TheVariants.{NoRoom}
use Rattle.streams.specs.declared.feeding.Fed.{Fed}
use Rattle.streams.specs.declared.stream.Point.TheVariants.{Closed}
use Rattle.streams.specs.declared.stream.Stream.{Stream}
use Rattle.streams.specs.declared.stream.StreamMatch.{StreamMatch}

-- No end of the byte after `taken` bytes fits into what is left of the rows.
pub record IsFullOfLines (d : Dfa) (t : ℕ) (s : Stream) (bytes : List ℕ) (taken count room : ℕ) : Type 0 where
  pub byte : ℕ
  pub is : slice_get bytes taken ≡ Some byte
  pub lacks : room < count + length (ends_in_lines_at d t s.point s.offset byte)

-- A stream read the first `taken` bytes of a piece line by line, and wrote the ends that these bytes decide to the first `count` rows.
pub record AreLinesFed (d : Dfa) (t : ℕ) (old new : Stream) (bytes : List ℕ) (rows after : List StreamMatch) (f : Fed)
    (r : Result ⊤ StreamError) : Type 0 where
  pub taken : f.taken ≤ length bytes
  pub stream : new ≡ fed_lines d t old (take f.taken bytes)
  pub ends : Appends rows after 0 f.count (ends_in_lines d t old (take f.taken bytes))
  -- if there is no error, all were read, or the ends of the next byte have no room
  pub all : IfOk r (λ _. (f.taken ≡ length bytes) ⊎ IsFullOfLines d t new bytes f.taken f.count (length rows))
  pub quiet : IfOk r (λ _. is_failed new.point ≡ false)
  pub err : IfErr r (IsStreamError d old new (length bytes))

-- A stream that is read line by line is closed, and the ends at the end of its last line are the first `count` rows. Or they have no room, and
-- it is as it was.
pub record AreLinesClosed (d : Dfa) (old new : Stream) (rows after : List StreamMatch) (count : ℕ) (r : Result ⊤ StreamError) : Type 0 where
  pub stream : IfOk r (λ _. new ≡ record { point = Closed; offset = old.offset })
  pub ends : IfOk r (λ _. Appends rows after 0 count (last_line_ends d old))
  pub not_closed : IfOk r (λ _. IsOpenPoint old.point)
  pub none : IfErr r (λ e. e ≢ NoRoom → count ≡ 0)
  pub lacks : r ≡ Err NoRoom → (count ≡ length (last_line_ends d old)) × (length rows < count)
  pub same : IfErr r (λ _. new ≡ old)
  pub err : IfErr r (λ e. (e ≡ NoRoom) ⊎ IsStreamError d old new 0 e)

-- ---- parts of calls

-- no terminator is among these bytes
abbrev pub HasNoEnd : ℕ → List ℕ → Type 0
HasNoEnd t [] = ⊤
HasNoEnd t (b ∷ bs) = ((b == t) ≡ false) × HasNoEnd t bs

-- What reading the end of a line did: the ends there are the first `count` rows, and the next line begins. Or they have no room, or a step
-- failed, and the stream is as it was.
abbrev pub IsLineEnded : Dfa → Stream → Stream → List StreamMatch → List StreamMatch → Fed → Result ⊤ StreamError → Type 0
IsLineEnded d old new rows after f (Ok done) =
    ((f.taken ≡ 1) × (new ≡ next_line_at old.point old.offset) × Appends rows after 0 f.count (last_ends d old))
    ⊎ ((f.taken ≡ 0) × (f.count ≡ 0) × (new ≡ old) × (length rows < length (last_ends d old)))
IsLineEnded d old new rows after f (Err e) = (f.taken ≡ 0) × (f.count ≡ 0) × (new ≡ old) × IsReadError d new e

-- A stream read the first `taken` bytes of a piece line by line, and wrote the ends that these bytes decide to the first `count` rows. If there
-- is no error, it is still open, and it read a byte at least, or the ends of the first one have no room.
pub record IsLineFed (d : Dfa) (t : ℕ) (old new : Stream) (bytes : List ℕ) (rows after : List StreamMatch) (f : Fed)
    (r : Result ⊤ StreamError) : Type 0 where
  pub taken : f.taken ≤ length bytes
  pub stream : new ≡ fed_lines d t old (take f.taken bytes)
  pub ends : Appends rows after 0 f.count (ends_in_lines d t old (take f.taken bytes))
  pub some : IfOk r (λ _. (0 < f.taken) ⊎ ((f.taken ≡ 0) × IsFullOfLines d t old bytes 0 0 (length rows)))
  pub is_open : IfOk r (λ _. IsOpenPoint new.point)
  pub offset : IfOk r (λ _. new.offset ≡ old.offset + f.taken)
  pub err : IfErr r (IsReadError d new)
