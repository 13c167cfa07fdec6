-- The results of the starts of searches, by the results of start calls.
use Rattle.std.proofs.Common.{◌≡◌, ℕ, Result, Ok, ap}
use Rattle.search_types.specs.declared.match_error.MatchErrorKind.{MatchErrorKind}
use Rattle.lazy_dfa.specs.declared.start_error.StartError.{StartError}

-- the result is this ID
abbrev pub is_id : Result ℕ StartError → ℕ → Type 0
is_id r id = r ≡ Ok id

abbrev pub is_told_id : Result ℕ MatchErrorKind → ℕ → Type 0
is_told_id r id = r ≡ Ok id

-- an ID that a start returns is the result of the search's start; an error is no ID
abbrev told_id : ℕ → Result ℕ MatchErrorKind
told_id id = Ok id

same_id : (a b : ℕ) → is_id (Ok a) b → a ≡ b
same_id a b is = cc

pub same_answer : (a b : ℕ) → is_id (Ok a) b → is_told_id (Ok a) b
same_answer a b is = ap told_id (same_id a b is)
