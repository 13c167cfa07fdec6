-- Streams for callers from outside: options and errors in numbers.
use Rattle.std.specs.Prelude.{◌≡◌, ◌⊎◌, ℕ, List, false}
use Rattle.streams.specs.declared.errors.StreamError.{StreamError}
use Rattle.streams.specs.declared.errors.StreamError.TheVariants.{Quit, Closed, GaveUp, NoMemory as NoneFree, NoRoom, TooLong}
use Rattle.stream_regex.specs.StreamRegexes.{IsNewError as IsSetError}
use Rattle.stream_regex.specs.declared.errors.NewError.{NewError as SetError}
use Rattle.stream_regex.specs.declared.errors.NewError.TheVariants.{NoMemory, Text, WordLook, Build}
use Rattle.stream_regex.specs.declared.options.Options as stream
use Rattle.ffi_core.specs.Compiled.{IsSplitError, are_arguments}
use Rattle.ffi_core.specs.Failures.{failure_of_build, failure_of_new, failure_of_text, plain, without_cause}
use Rattle.ffi_core.specs.Options.{options_of, reads_lines}
use Rattle.ffi_core.specs.Texts.{cut}
use Rattle.ffi_core.specs.declared.failure.Failure.{Failure}
use Rattle.ffi_core.specs.declared.failure.NewError.{NewError}
use Rattle.ffi_core.specs.declared.options.Options.{Options}

-- The options of streams for which a caller's numbers stand.
abbrev pub stream_options_of : Options → stream.Options
stream_options_of o = record {
  syntax = (options_of o).syntax;
  byte_classes = (options_of o).byte_classes;
  skip_cache_capacity_check = (options_of o).skip_cache_capacity_check;
  size_limit = (options_of o).size_limit;
  cache_capacity = (options_of o).cache_capacity;
  lines = reads_lines o;
}

-- Why no set of streams is made of patterns. A Unicode word boundary has the status 10, and the number of its pattern.
abbrev pub failure_of_set : SetError → Failure
failure_of_set NoMemory = plain 3
failure_of_set (Text e) = failure_of_text e
failure_of_set (WordLook pattern) = record (plain 10) { pattern = pattern }
failure_of_set (Build e) = failure_of_build e

-- The failure says why no set of streams is made of these bytes: an argument isn't accepted, the bytes aren't patterns of these lengths, or no
-- automaton for streams is made of the patterns.
abbrev pub IsStreamsFailure : Options → List ℕ → List ℕ → Failure → Type 0
IsStreamsFailure o lengths bytes f =
    ((are_arguments o lengths bytes ≡ false) × (f ≡ plain 2))
    ⊎ (((e : NewError) × (without_cause f ≡ failure_of_new e) × IsSplitError lengths bytes e)
    ⊎ ((e : SetError) × (without_cause f ≡ failure_of_set e) × IsSetError (stream_options_of o) (cut lengths bytes) e))

-- Why a stream takes no more bytes, or isn't closed.
abbrev pub failure_of_stream : StreamError → Failure
failure_of_stream (Quit b i) = record (plain 10) { start = i }
failure_of_stream Closed = plain 14
failure_of_stream GaveUp = plain 9
failure_of_stream NoneFree = plain 3
failure_of_stream TooLong = plain 8
failure_of_stream NoRoom = plain 13
