-- What a stream reports of input that it reads line by line. Each line is searched by itself, and offsets are those of the whole input. A
-- byte, the terminator, ends a line and is no part of it. After the last terminator there is a line only if a byte follows.
use Rattle.std.specs.Prelude.{◌+◌, ℕ, Bool, true, false, List, [], ◌∷◌, ◌++◌, length, map, ◌==◌, Option, Some, None, option_map}
use Rattle.std.specs.Prelude.{if◌then◌else◌}
use Rattle.search_types.specs.declared.match_error.MatchErrorKind.{MatchErrorKind}
use Rattle.search_types.specs.declared.match_error.MatchErrorKind.TheVariants.{GaveUp, HaystackTooLong, NoMemory, NotAPair, Quit, UnsupportedAnchored}
use Rattle.lazy_dfa.specs.Dfas.{Dfa}
use Rattle.lazy_dfa.specs.Overlapping.{Rest, nothing_left, onto}
use Rattle.streams.specs.Overlapping.{end_pair, failure, rest_of_stream}
use Rattle.streams.specs.Streams.{fresh_stream, last_at, next_at, stream_end, stream_ends_at}
use Rattle.streams.specs.declared.stream.Point.{Point}
use Rattle.streams.specs.declared.stream.Point.TheVariants.{Fresh, Within, Dead, Failed, Closed}
use Rattle.streams.specs.declared.stream.Stream.{Stream}
use Rattle.streams.specs.declared.stream.StreamMatch.{StreamMatch}

-- ---- one byte

-- where a stream is after a terminator: at the start of the next line, unless it has failed or is closed
abbrev pub next_line_at : Point → ℕ → Stream
next_line_at Fresh i = record { point = Fresh; offset = i + 1 }
next_line_at (Within s) i = record { point = Fresh; offset = i + 1 }
next_line_at Dead i = record { point = Fresh; offset = i + 1 }
next_line_at (Failed q) i = record { point = Failed q; offset = i }
next_line_at Closed i = record { point = Closed; offset = i }

-- where it is after a byte
abbrev pub next_in_lines : Dfa → ℕ → Point → ℕ → ℕ → Stream
next_in_lines d t p i b = if b == t then next_line_at p i else next_at d p i b

-- the ends that it reports for a byte: for a terminator, those at the end of the line
abbrev pub ends_in_lines_at : Dfa → ℕ → Point → ℕ → ℕ → List StreamMatch
ends_in_lines_at d t p i b = if b == t then map (stream_end i) (last_at d p) else stream_ends_at d p i b

-- ---- pieces

-- a stream after these bytes
unfoldable pub fed_lines : Dfa → ℕ → Stream → List ℕ → Stream
fed_lines d t s [] = s
fed_lines d t s (b ∷ bs) = fed_lines d t (next_in_lines d t s.point s.offset b) bs

-- the ends that it reports for these bytes
unfoldable pub ends_in_lines : Dfa → ℕ → Stream → List ℕ → List StreamMatch
ends_in_lines d t s [] = []
ends_in_lines d t s (b ∷ bs) = ends_in_lines_at d t s.point s.offset b ++ ends_in_lines d t (next_in_lines d t s.point s.offset b) bs

-- ---- the end of the input

-- it has read no byte of its line
abbrev pub is_fresh : Point → Bool
is_fresh Fresh = true
is_fresh (Within s) = false
is_fresh Dead = false
is_fresh (Failed q) = false
is_fresh Closed = false

-- The ends that it reports when it is closed. If no byte follows the last terminator, there is no line, and there are none.
abbrev pub last_line_ends : Dfa → Stream → List StreamMatch
last_line_ends d s = if is_fresh s.point then [] else map (stream_end s.offset) (last_at d s.point)

-- ---- each line by itself

-- a line without a terminator, at an offset; none if it has no bytes
abbrev pub unended_line : ℕ → List ℕ → List (ℕ × List ℕ)
unended_line i [] = []
unended_line i (b ∷ bs) = (i, b ∷ bs) ∷ []

-- The lines of an input: the offset of each, and its bytes without the terminator. The first one begins at offset i, and these bytes of it
-- were read before.
unfoldable pub lines_from : ℕ → ℕ → List ℕ → List ℕ → List (ℕ × List ℕ)
lines_from t i read [] = unended_line i read
lines_from t i read (b ∷ bs) = if b == t then (i, read) ∷ lines_from t (i + length read + 1) [] bs else lines_from t i (read ++ b ∷ []) bs

abbrev pub lines_in : ℕ → List ℕ → List (ℕ × List ℕ)
lines_in t bytes = lines_from t 0 [] bytes

-- an end in a line at offset i, as one in the whole input
abbrev pub moved_end : ℕ → ℕ × ℕ → ℕ × ℕ
moved_end i e = (i + e.0, e.1)

abbrev pub moved_error : ℕ → MatchErrorKind → MatchErrorKind
moved_error i (Quit b j) = Quit b (i + j)
moved_error i (GaveUp j) = GaveUp (i + j)
moved_error i (HaystackTooLong n) = HaystackTooLong n
moved_error i (UnsupportedAnchored mode) = UnsupportedAnchored mode
moved_error i NotAPair = NotAPair
moved_error i NoMemory = NoMemory

abbrev pub moved_rest : ℕ → Rest → Rest
moved_rest i r = record { ends = map (moved_end i) r.ends; rejection = option_map (moved_error i) r.rejection }

-- what one search reports, and then another one, if the first doesn't fail
abbrev pub unless_rejected : List (ℕ × ℕ) → Option MatchErrorKind → Rest → Rest
unless_rejected ends None rest = onto ends rest
unless_rejected ends (Some e) rest = record { ends = ends; rejection = Some e }

abbrev pub then_rest : Rest → Rest → Rest
then_rest first rest = unless_rejected first.ends first.rejection rest

-- What searches of each line by itself report, until one fails: by a fresh stream that is fed the line and closed.
unfoldable pub rest_of_each : Dfa → List (ℕ × List ℕ) → Rest
rest_of_each d [] = nothing_left
rest_of_each d (l ∷ ls) = then_rest (moved_rest l.0 (rest_of_stream d fresh_stream l.1)) (rest_of_each d ls)

-- what a stream reports for these bytes and the end of the input after them, line by line
abbrev pub rest_of_lines : Dfa → ℕ → Stream → List ℕ → Rest
rest_of_lines d t s bytes = record {
  ends = map end_pair (ends_in_lines d t s bytes ++ last_line_ends d (fed_lines d t s bytes));
  rejection = failure (fed_lines d t s bytes);
}
