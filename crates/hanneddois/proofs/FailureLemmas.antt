-- What a call returns for a list of which a search failed.
use Rattle.std.proofs.Common.{ℕ, ◌<◌, List, arith}
use Rattle.meta_regex.specs.declared.errors.SearchError.{SearchError}
use Rattle.meta_regex.specs.declared.errors.SearchError.TheVariants.{NoMemory as NoneFree, NotUtf8, TooLarge, WrongMarkCount}
use Rattle.meta_regex.specs.declared.found_match.FoundMatch.{FoundMatch}
use Rattle.captures.specs.NextMatches.{AreNext, AreNextBegun}
use Rattle.captures.specs.declared.errors.CapturesError.{CapturesError}
use Rattle.captures.specs.declared.errors.CapturesError.TheVariants.{Search, NoMemory, TooLarge as OverLimit}
use Rattle.ffi_core.specs.Compiled.{Regexed, config_by}
use Rattle.ffi_core.specs.Failures.{failure_of_captures}
use Rattle.hanneddois.specs.Answers.{AnswersCapturesNext}

-- the status of an error is above those of a call that succeeds
pub status_is_error : (e : CapturesError) → 1 < (failure_of_captures e).status
status_is_error (Search NoneFree) = omega arith
status_is_error (Search (NotUtf8 at)) = omega arith
status_is_error (Search TooLarge) = omega arith
status_is_error (Search WrongMarkCount) = omega arith
status_is_error NoMemory = omega arith
status_is_error (OverLimit limit) = omega arith

pub next_fails : (v : Regexed) (h : List ℕ) (from width n next : ℕ) (old new : List FoundMatch) (slots_old slots : List ℕ) (status : ℕ) →
    1 < status → AreNext (config_by v) v.texts h from n next old new → AreNextBegun (config_by v) v.texts h from width n slots_old slots →
    AnswersCapturesNext v h from width n next old new slots_old slots status
next_fails v h from width n next old new slots_old slots status fails found begun = record {
  any = λ succeeds. absurd (omega (arith, fails, succeeds));
  found = found;
  all = λ succeeds. absurd (omega (arith, fails, succeeds));
  captured = λ succeeds. absurd (omega (arith, fails, succeeds));
  begun = λ _. begun;
}
