-- Why no groups are made, and why no match is returned with its groups.
use Rattle.std.specs.Prelude.{◌≡◌, ◌<◌, ℕ, List, Some, slice_get, ⊤}
use Rattle.regex_syntax.specs.declared.Config.{Config}
use Rattle.meta_regex.specs.Options.{config_of}
use Rattle.meta_regex.specs.Regexes.{IsSearchError}
use Rattle.meta_regex.specs.declared.options.Options.{Options}
use Rattle.group_finder.specs.Patterns.{IsPattern}
use Rattle.group_finder.specs.Errors.{IsNewError}
use Rattle.group_finder.specs.declared.errors.NewError.{NewError}
use Rattle.group_finder.specs.declared.errors.NewError.TheVariants.{NoMemory as NoneFree, Syntax, TooLarge as Above}
use Rattle.captures.specs.declared.errors.CapturesError.{CapturesError}
use Rattle.captures.specs.declared.errors.CapturesError.TheVariants.{Search, NoMemory, TooLarge}
use Rattle.captures.specs.Groups.{limit_of}

-- Why a search of a haystack fails. With `NoMemory`, memory ran out. With `TooLarge`, what finds the groups of a pattern would take more than
-- the limit, and the error has the limit.
abbrev pub IsCapturesError : Options → List ℕ → CapturesError → Type 0
IsCapturesError o h (Search e) = IsSearchError (config_of o) h e
IsCapturesError o h NoMemory = ⊤
IsCapturesError o h (TooLarge n) = n ≡ limit_of o

-- The error is that of one of these patterns, and each one before it is a pattern.
pub record IsFirstRejected (config : Config) (texts : List (List ℕ)) (e : NewError) : Type 0 where
  pub number : ℕ
  pub text : List ℕ
  pub listed : slice_get texts number ≡ Some text
  pub rejected : (limit : ℕ) → IsNewError config text limit e
  pub before : (k : ℕ) (t : List ℕ) → k < number → slice_get texts k ≡ Some t → IsPattern config t

-- Why no groups of patterns are made. With `Syntax`, the first of them that is none is rejected. No error is about a limit.
abbrev pub IsGroupsError : Config → List (List ℕ) → NewError → Type 0
IsGroupsError config texts NoneFree = ⊤
IsGroupsError config texts (Syntax e) = IsFirstRejected config texts (Syntax e)
IsGroupsError config texts (Above n) = ⊥

-- Why what finds the groups isn't made: memory ran out, or it would take more than the limit. No error is about the syntax of a pattern.
abbrev pub IsPrepareError : Options → NewError → Type 0
IsPrepareError o NoneFree = ⊤
IsPrepareError o (Syntax e) = ⊥
IsPrepareError o (Above n) = n ≡ limit_of o
