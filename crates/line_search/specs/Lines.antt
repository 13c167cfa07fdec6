-- The lines of an input.
use Rattle.std.specs.Prelude.{ℕ, ◌+◌, ◌==◌, Bool, true, false, ◌&&◌, List, [], ◌∷◌, length, if◌then◌else◌}

-- A line without its line feed, and whether a line feed ends it. Only the last line of an input may have none.
pub record SplitLine : Type 0 where
  pub bytes : List ℕ
  pub is_ended : Bool

abbrev pub ended : List ℕ → SplitLine
ended bytes = record { bytes = bytes; is_ended = true }

abbrev pub unended : List ℕ → SplitLine
unended bytes = record { bytes = bytes; is_ended = false }

-- A line, its number (counted from 1), and the offset of its first byte (counted from 0).
pub record TextLine : Type 0 where
  pub number : ℕ
  pub place : ℕ
  pub content : SplitLine

-- Some lines with one more byte at the start of the first one.
abbrev pub put_first : ℕ → List SplitLine → List SplitLine
put_first b [] = unended (b ∷ []) ∷ []
put_first b (line ∷ lines) = record { bytes = b ∷ line.bytes; is_ended = line.is_ended } ∷ lines

-- The lines of an input, each ended by a line feed, 10. After the last line feed there is a line only if bytes follow it.
abbrev pub split_lines : List ℕ → List SplitLine
split_lines [] = []
split_lines (b ∷ bs) = if b == 10 then ended [] ∷ split_lines bs else put_first b (split_lines bs)

-- Bytes without the carriage return, 13, at their end, if there is one.
abbrev pub without_return : List ℕ → List ℕ
without_return [] = []
without_return (b ∷ []) = if b == 13 then [] else b ∷ []
without_return (b ∷ c ∷ bs) = b ∷ without_return (c ∷ bs)

-- The bytes of a line against which patterns are matched. With `crlf`, a carriage return right before the line feed belongs to the end of
-- the line, so it isn't one of them. In a last line without a line feed it is one of them.
abbrev pub searched : Bool → SplitLine → List ℕ
searched crlf line = if line.is_ended && crlf then without_return line.bytes else line.bytes

-- Lines with their numbers and offsets, where the first line has the given number and offset.
abbrev pub numbered : ℕ → ℕ → List SplitLine → List TextLine
numbered n at [] = []
numbered n at (line ∷ lines) = record { number = n; place = at; content = line } ∷ numbered (n + 1) (at + length line.bytes + 1) lines

abbrev pub text_lines : List ℕ → List TextLine
text_lines text = numbered 1 0 (split_lines text)
