-- Errors in numbers.
use Rattle.std.specs.Prelude.{ℕ, Option, Some, None}
use Rattle.regex_syntax.specs.declared.error.ErrorKind.{ErrorKind}
use Rattle.regex_syntax.specs.declared.error.ErrorKind.TheVariants.{NestLimitExceeded}
use Rattle.nfa_core.specs.BuildErrors.{size_limit_of}
use Rattle.lazy_dfa.specs.declared.build_error.BuildError.{BuildError}
use Rattle.lazy_dfa.specs.declared.build_error.BuildError.TheVariants.{NFA, InsufficientCacheCapacity, InsufficientStateIDCapacity}
use Rattle.lazy_dfa.specs.declared.build_error.BuildError.TheVariants.{Unsupported, NoMemory as NoRoom}
use Rattle.pattern_text.specs.declared.parse_error.ParseError.{ParseError}
use Rattle.pattern_text.specs.declared.parse_error.ParseError.TheVariants.{NoMemory as NoneLeft, Refused}
use Rattle.pattern_search.specs.declared.parsing.PatternError.{PatternError}
use Rattle.meta_regex.specs.declared.errors.SearchError.{SearchError}
use Rattle.meta_regex.specs.declared.errors.SearchError.TheVariants.{NoMemory as NoneFree, NotUtf8 as NoText, TooLarge, WrongMarkCount}
use Rattle.captures.specs.declared.errors.CapturesError.{CapturesError}
use Rattle.captures.specs.declared.errors.CapturesError.TheVariants.{Search, NoMemory as OutOfMemory, TooLarge as OverLimit}
use Rattle.ffi_core.specs.declared.failure.Failure.{Failure}
use Rattle.ffi_core.specs.declared.failure.NewError.{NewError}
use Rattle.ffi_core.specs.declared.failure.NewError.TheVariants.{BadArgument, NoMemory, NotUtf8, Text, EmptyLoop, Build, GroupsTooLarge}

abbrev pub plain : ℕ → Failure
plain status = record { status = status; cause = 0; pattern = 0; start = 0; end = 0; limit = 0 }

-- The error without the cause for which a pattern is rejected. Only messages depend on the cause.
abbrev pub without_cause : Failure → Failure
without_cause f = record f { cause = 0 }

abbrev pub status_of_kind : ErrorKind → ℕ
status_of_kind NestLimitExceeded = 6
status_of_kind _ = 5

abbrev pub failure_of_parse : ℕ → ParseError → Failure
failure_of_parse number NoneLeft = plain 3
failure_of_parse number (Refused kind place) =
    record (plain (status_of_kind kind)) { pattern = number; start = place.start; end = place.end }

abbrev pub failure_of_text : PatternError → Failure
failure_of_text e = failure_of_parse e.number e.error

abbrev pub failure_of_limit : Option ℕ → Failure
failure_of_limit None = plain 8
failure_of_limit (Some limit) = record (plain 8) { limit = limit }

abbrev pub failure_of_build : BuildError → Failure
failure_of_build (NFA err) = failure_of_limit (size_limit_of err)
failure_of_build (InsufficientCacheCapacity minimum given) = record (plain 9) { limit = minimum }
failure_of_build InsufficientStateIDCapacity = plain 8
failure_of_build Unsupported = plain 10
failure_of_build NoRoom = plain 3

abbrev pub failure_of_new : NewError → Failure
failure_of_new BadArgument = plain 2
failure_of_new NoMemory = plain 3
failure_of_new (NotUtf8 pattern at) = record (plain 4) { pattern = pattern; start = at }
failure_of_new (Text e) = failure_of_text e
failure_of_new (EmptyLoop pattern) = record (plain 7) { pattern = pattern }
failure_of_new (Build e) = failure_of_build e
failure_of_new (GroupsTooLarge limit) = record (plain 8) { limit = limit }

abbrev pub failure_of_search : SearchError → Failure
failure_of_search WrongMarkCount = plain 2
failure_of_search NoneFree = plain 3
failure_of_search (NoText at) = record (plain 12) { start = at }
failure_of_search TooLarge = plain 8

abbrev pub failure_of_captures : CapturesError → Failure
failure_of_captures (Search e) = failure_of_search e
failure_of_captures OutOfMemory = plain 3
failure_of_captures (OverLimit limit) = record (plain 8) { limit = limit }
