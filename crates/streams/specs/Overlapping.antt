-- What a stream reports of a whole input, in the words of overlapping searches.
use Rattle.std.specs.Prelude.{ℕ, List, ◌++◌, map, Option, Some, None}
use Rattle.search_types.specs.declared.match_error.MatchErrorKind.{MatchErrorKind}
use Rattle.search_types.specs.declared.match_error.MatchErrorKind.TheVariants.{Quit}
use Rattle.lazy_dfa.specs.Dfas.{Dfa}
use Rattle.lazy_dfa.specs.Overlapping.{Rest}
use Rattle.streams.specs.Streams.{stream_ends, fed, last_ends}
use Rattle.streams.specs.declared.stream.Point.{Point}
use Rattle.streams.specs.declared.stream.Point.TheVariants.{Fresh, Within, Dead, Failed, Closed}
use Rattle.streams.specs.declared.stream.Stream.{Stream}
use Rattle.streams.specs.declared.stream.StreamMatch.{StreamMatch}

abbrev pub end_pair : StreamMatch → ℕ × ℕ
end_pair m = (m.end, m.pattern)

-- the error of a stream that failed, at this offset
abbrev pub failure_at : ℕ → Point → Option MatchErrorKind
failure_at i Fresh = None
failure_at i (Within s) = None
failure_at i Dead = None
failure_at i (Failed b) = Some (Quit b i)
failure_at i Closed = None

abbrev pub failure : Stream → Option MatchErrorKind
failure s = failure_at s.offset s.point

-- what a stream reports for these bytes and the end of the input after them
abbrev pub rest_of_stream : Dfa → Stream → List ℕ → Rest
rest_of_stream d s bytes = record {
  ends = map end_pair (stream_ends d s bytes ++ last_ends d (fed d s bytes));
  rejection = failure (fed d s bytes);
}
