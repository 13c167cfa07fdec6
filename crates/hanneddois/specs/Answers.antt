-- What the results of the calls mean, in terms of the patterns and options from which a handle's regex is made.
use Rattle.std.specs.Prelude.{◌≡◌, ◌≢◌, ◌<◌, ◌≤◌, ◌*◌, ◌&&◌, ◌||◌, ℕ, Bool, List, true, false, Option, Some, None, length, nat_eq, nat_lt}
use Rattle.meta_regex.specs.Regexes.{IsReported, HasFoundStart, HasFoundSpan, AreAll, AreFirstOfAll, AreMarked}
use Rattle.meta_regex.specs.Regexes.{IsSearchError, IsMatchingPatternsError}
use Rattle.meta_regex.specs.Lists.{AreListed, AreFirstListed}
use Rattle.meta_regex.specs.declared.errors.SearchError.{SearchError}
use Rattle.meta_regex.specs.declared.found_match.FoundMatch.{FoundMatch}
use Rattle.captures.specs.Captures.{AreCaptured, AreFirstCaptured, HasCaptures}
use Rattle.captures.specs.NextMatches.{AreNext, AreNextBegun, AreNextCaptured, IsFullOrLast}
use Rattle.captures.specs.declared.errors.CapturesError.{CapturesError}
use Rattle.ffi_core.specs.Compiled.{Regexed, config_by, IsCallError}
use Rattle.ffi_core.specs.Failures.{failure_of_captures, failure_of_new, failure_of_search, plain, without_cause}
use Rattle.ffi_core.specs.Groups.{IsGroupSearchError}
use Rattle.ffi_core.specs.Replacing.{IsReplacedInto, said_by}
use Rattle.ffi_core.specs.declared.failure.Failure.{Failure}
use Rattle.ffi_core.specs.declared.failure.NewError.{NewError}
use Rattle.ffi_core.specs.declared.options.Options.{Options}

-- The error of a search has the status that the call returns. If that is 0 or 1, the error has nothing else.
pub record ReportsStatus (status : ℕ) (error : Failure) : Type 0 where
  pub reported : error.status ≡ status
  pub alone : status < 2 → error ≡ plain status

-- A status that isn't 0 says why no regex is made from these patterns. The cause for which a pattern is rejected is left open, since only
-- messages depend on it.
abbrev pub RejectsNew : Options → List ℕ → List ℕ → Failure → Type 0
RejectsNew o lengths texts f =
    f.status ≢ 0 → (e : NewError) × (without_cause f ≡ failure_of_new e) × IsCallError o lengths texts e

-- A status above 1 says why the search of the haystack failed.
abbrev pub FailsSearch : Regexed → List ℕ → Failure → Type 0
FailsSearch v h f = 1 < f.status → (e : SearchError) × (f ≡ failure_of_search e) × IsSearchError (config_by v) h e

-- A status above 1 says why the search of the haystack for matches with their groups failed.
abbrev pub FailsCaptures : Regexed → List ℕ → Failure → Type 0
FailsCaptures v h f = 1 < f.status → (e : CapturesError) × (f ≡ failure_of_captures e) × IsGroupSearchError v h e

-- The statuses of a call that has replaced what there is to replace.
abbrev pub is_replaced : ℕ → Bool
is_replaced status = nat_lt status 2 || nat_eq status 13

-- Any other status says why the search of the haystack for what to replace failed.
abbrev pub FailsReplace : Regexed → List ℕ → Failure → Type 0
FailsReplace v h f = is_replaced f.status ≡ false → (e : CapturesError) × (f ≡ failure_of_captures e) × IsGroupSearchError v h e

-- A status above 1 says why the search for the patterns that match failed.
abbrev pub FailsMatchingPatterns : Regexed → List ℕ → List ℕ → Failure → Type 0
FailsMatchingPatterns v h marks f =
    1 < f.status → (e : SearchError) × (f ≡ failure_of_search e) × IsMatchingPatternsError (config_by v) v.texts h marks e

-- A status of 0 says that there is a match, and one of 1 that there is none.
pub record AnswersIsMatch (v : Regexed) (h : List ℕ) (status : ℕ) : Type 0 where
  pub some : status ≡ 0 → IsReported (config_by v) v.texts h true
  pub none : status ≡ 1 → IsReported (config_by v) v.texts h false

-- The result is the leftmost match from an offset on, of the first pattern that matches there. If the body of every unbounded repetition
-- consumes at least one byte, it is the preferred one.
pub record AnswersFind (v : Regexed) (h : List ℕ) (from : ℕ) (found : FoundMatch) (status : ℕ) : Type 0 where
  pub some : status ≡ 0 → HasFoundStart (config_by v) v.texts h from (Some found)
  pub preferred : status ≡ 0 → v.loops ≡ true → HasFoundSpan (config_by v) v.texts h from (Some found)
  pub none : status ≡ 1 → HasFoundStart (config_by v) v.texts h from None

-- The result is the preferred match from an offset on, whatever loops consume, of the first pattern that matches there. The slots are those of
-- the match, as far as there is room for the given number.
pub record AnswersCaptures (v : Regexed) (h : List ℕ) (from n : ℕ) (found : FoundMatch) (slots : List ℕ) (status : ℕ) : Type 0 where
  pub some : status ≡ 0 → HasCaptures (config_by v) v.texts h from n (Some found) slots
  pub none : status ≡ 1 → HasCaptures (config_by v) v.texts h from n None slots

-- `n` matches were counted, and the first of them are in the rows. If the call succeeds, these are all matches. If the body of every
-- unbounded repetition consumes at least one byte, they are those that the matcher finds. In any case each match comes next after the one
-- before it, and none follows the last. If the call fails, they are the first matches.
pub record AnswersAll (v : Regexed) (h : List ℕ) (n : ℕ) (old new : List FoundMatch) (status : ℕ) : Type 0 where
  pub any : status ≡ 0 → 0 < n
  pub all : status < 2 → v.loops ≡ true → AreAll (config_by v) v.texts h n old new
  pub listed : status < 2 → AreListed (config_by v) v.texts h n old new
  pub first : 1 < status → v.loops ≡ true → AreFirstOfAll (config_by v) v.texts h n old new
  pub begun : 1 < status → AreFirstListed (config_by v) v.texts h n old new

-- `n` matches were counted, the first of them are in the rows, and their slots, of which a row has the given width, are in the slots. If the
-- call succeeds, these are all matches that the matcher finds, whatever loops consume. If it fails, they are the first of these.
pub record AnswersCapturesAll (v : Regexed) (h : List ℕ) (width n : ℕ) (old new : List FoundMatch) (slots_old slots : List ℕ) (status : ℕ)
    : Type 0 where
  pub any : status ≡ 0 → 0 < n
  pub all : status < 2 → AreAll (config_by v) v.texts h n old new
  pub captured : status < 2 → AreCaptured (config_by v) v.texts h width slots_old slots
  pub first : 1 < status → AreFirstOfAll (config_by v) v.texts h n old new
  pub begun : 1 < status → AreFirstCaptured (config_by v) v.texts h width n slots_old slots

-- There is at least one row, and the slots fill the rows, each of the given width.
abbrev pub has_rows : ℕ → ℕ → ℕ → Bool
has_rows rows slots width = nat_lt 0 rows && nat_eq slots (rows * width)

-- No match was counted, nothing was written to the rows and slots, and the offset from which to search is as it was.
pub record KeptNext (from next n : ℕ) (old new : List FoundMatch) (slots_old slots : List ℕ) : Type 0 where
  pub next_is : next ≡ from
  pub none : n ≡ 0
  pub rows_are : new ≡ old
  pub slots_are : slots ≡ slots_old

-- `n` matches were counted, and they are the first ones from an offset on, whatever loops consume. They are in the rows, and their slots, of
-- which a row has the given width, are in the slots. The search for the next one begins at the offset `next`. If the call succeeds, the rows
-- are full or no match follows.
pub record AnswersCapturesNext (v : Regexed) (h : List ℕ) (from width n next : ℕ) (old new : List FoundMatch) (slots_old slots : List ℕ)
    (status : ℕ) : Type 0 where
  pub any : status ≡ 0 → 0 < n
  pub found : AreNext (config_by v) v.texts h from n next old new
  pub all : status < 2 → IsFullOrLast (config_by v) v.texts h (length old) n next
  pub captured : status < 2 → AreNextCaptured (config_by v) v.texts h from width n slots_old slots
  pub begun : 1 < status → AreNextBegun (config_by v) v.texts h from width n slots_old slots

-- `n` matches are replaced, and the output has `len` bytes, of which the first are in the room. A status of 0 says that a match is replaced and
-- the whole output is there, one of 1 that there is no match and the whole haystack is there, and one of 13 that there is less room.
pub record AnswersReplace (v : Regexed) (h replacement : List ℕ) (limit flags : ℕ) (old new : List ℕ) (len n status : ℕ) : Type 0 where
  pub replaced : is_replaced status ≡ true → IsReplacedInto (config_by v) v.texts h (said_by (config_by v) (nat_eq flags 1) replacement) limit
      old new len n
  pub any : status ≡ 0 → 0 < n
  pub none : status ≡ 1 → n ≡ 0
  pub whole : status < 2 → len ≤ length old
  pub part : status ≡ 13 → length old < len

-- `n` patterns match, and these are marked.
pub record AnswersWhichMatch (v : Regexed) (h : List ℕ) (n : ℕ) (marks : List ℕ) (status : ℕ) : Type 0 where
  pub any : status ≡ 0 → 0 < n
  pub marked : status < 2 → AreMarked (config_by v) v.texts h n marks

abbrev pub pattern_count_of : Option Regexed → ℕ
pattern_count_of None = 0
pattern_count_of (Some v) = length v.texts
