-- What the results of the calls with streams mean.
use Rattle.std.specs.Prelude.{◌≡◌, ◌≢◌, ◌⊎◌, ℕ, List, true, false, Option, Some, None, Result, Ok, Err, ⊤}
use Rattle.streams.specs.declared.errors.StreamError.{StreamError}
use Rattle.streams.specs.declared.feeding.Fed.{Fed}
use Rattle.streams.specs.declared.stream.Stream.{Stream}
use Rattle.streams.specs.declared.stream.StreamMatch.{StreamMatch}
use Rattle.streams.specs.Streams.{fresh_stream}
use Rattle.stream_regex.specs.Sets.{ChangesAt, ClosesAt, CopiesAt, FeedsAt, IsAdded, IsSameSet, SetValue}
use Rattle.ffi_core.specs.Failures.{plain}
use Rattle.ffi_core.specs.Streams.{IsStreamsFailure, failure_of_stream}
use Rattle.ffi_core.specs.declared.failure.Failure.{Failure}
use Rattle.ffi_core.specs.declared.options.Options.{Options}

-- The handle held a set and holds one now, and this relation is between both. An empty handle stays empty.
abbrev pub Becomes : Option SetValue → Option SetValue → (SetValue → SetValue → Type 0) → Type 0
Becomes None new Is = new ≡ None
Becomes (Some v) None Is = ⊥
Becomes (Some v) (Some w) Is = Is v w

-- A status that isn't 0 says why no set of streams is made from these patterns.
abbrev pub RejectsStreams : Options → List ℕ → List ℕ → Failure → Type 0
RejectsStreams o lengths texts f = f.status ≢ 0 → IsStreamsFailure o lengths texts f

abbrev pub failure_of_outcome : Result ⊤ StreamError → Failure
failure_of_outcome (Ok done) = plain 0
failure_of_outcome (Err e) = failure_of_stream e

-- What is reported of a call that feeds a stream, and how many bytes were taken and ends written. None: there is no such stream.
abbrev pub failure_of_feed : Option (Fed × Result ⊤ StreamError) → Failure
failure_of_feed None = plain 2
failure_of_feed (Some (f, r)) = failure_of_outcome r

abbrev pub taken_by : Option (Fed × Result ⊤ StreamError) → ℕ
taken_by None = 0
taken_by (Some (f, r)) = f.taken

abbrev pub written_by : Option (Fed × Result ⊤ StreamError) → ℕ
written_by None = 0
written_by (Some (f, r)) = f.count

-- A stream of the set was fed, or there is none of this number. What is reported is the result.
pub record AnswersFeed (old new : SetValue) (n : ℕ) (bytes : List ℕ) (rows after : List StreamMatch) (taken count : ℕ) (f : Failure)
    : Type 0 where
  pub result : Option (Fed × Result ⊤ StreamError)
  pub feeds : FeedsAt old new n bytes rows after result
  pub failure : f ≡ failure_of_feed result
  pub taken_is : taken ≡ taken_by result
  pub count_is : count ≡ written_by result

abbrev pub failure_of_close : Option (ℕ × Result ⊤ StreamError) → Failure
failure_of_close None = plain 2
failure_of_close (Some (n, r)) = failure_of_outcome r

abbrev pub count_of_close : Option (ℕ × Result ⊤ StreamError) → ℕ
count_of_close None = 0
count_of_close (Some (n, r)) = n

-- A stream of the set was closed, or there is none of this number, or closing failed. What is reported is the result.
pub record AnswersClose (old new : SetValue) (n : ℕ) (rows after : List StreamMatch) (count : ℕ) (f : Failure) : Type 0 where
  pub result : Option (ℕ × Result ⊤ StreamError)
  pub closes : ClosesAt old new n rows after result
  pub failure : f ≡ failure_of_close result
  pub count_is : count ≡ count_of_close result

-- A stream that has read nothing was added and has this number. Or memory ran out, no stream was added, and the number is 0.
abbrev pub AnswersOpen : SetValue → SetValue → ℕ → ℕ → Type 0
AnswersOpen old new n status = ((status ≡ 0) × IsAdded old new fresh_stream n) ⊎ ((status ≡ 3) × (n ≡ 0) × IsSameSet old new)

-- A copy of the stream with the number `from` was added and has this number. Or there is no such stream, or memory ran out: no stream was
-- added, and the number is 0.
abbrev pub AnswersCopy : SetValue → SetValue → ℕ → ℕ → ℕ → Type 0
AnswersCopy old new from n status =
    ((status ≡ 0) × CopiesAt old new from (Some n))
    ⊎ (((status ≡ 2) × (n ≡ 0) × CopiesAt old new from None) ⊎ ((status ≡ 3) × (n ≡ 0) × IsSameSet old new))

-- The stream with this number is another one now, or none. Or there is none of this number.
abbrev pub AnswersChange : SetValue → SetValue → ℕ → Option Stream → ℕ → Type 0
AnswersChange old new n o status = ((status ≡ 0) × ChangesAt old new n o true) ⊎ ((status ≡ 2) × ChangesAt old new n o false)
