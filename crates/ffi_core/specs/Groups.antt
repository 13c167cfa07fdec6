-- Groups of a compiled regex, and why a search for them fails.
use Rattle.std.specs.Prelude.{◌≡◌, ℕ, List, [], Option, Some, None, Result, IfErr, IfOk, length, replicate, slice_get, ⊤}
use Rattle.regex_syntax.specs.Grammar.{Names}
use Rattle.meta_regex.specs.Regexes.{IsSearchError, overlaid}
use Rattle.meta_regex.specs.declared.found_match.FoundMatch.{FoundMatch}
use Rattle.group_finder.specs.Patterns.{IsNamedBy, name_at}
use Rattle.group_finder.specs.Slots.{no_offset}
use Rattle.captures.specs.Captures.{HasCaptures}
use Rattle.captures.specs.declared.errors.CapturesError.{CapturesError}
use Rattle.captures.specs.declared.errors.CapturesError.TheVariants.{Search, NoMemory, TooLarge}
use Rattle.ffi_core.specs.Compiled.{Regexed, config_by}
use Rattle.ffi_core.specs.Options.{groups_limit_of}

-- Why a search for a match with its groups fails. With `NoMemory`, memory ran out. With `TooLarge`, what finds the groups of a pattern would
-- take more bytes than the options allow.
abbrev pub IsGroupSearchError : Regexed → List ℕ → CapturesError → Type 0
IsGroupSearchError v h (Search e) = IsSearchError (config_by v) h e
IsGroupSearchError v h NoMemory = ⊤
IsGroupSearchError v h (TooLarge n) = n ≡ groups_limit_of v.options

-- What a search for the leftmost match from an offset on, with its groups, returns. The slots get their offsets. On an error, no slot holds an
-- offset.
pub record FindsGroups (v : Regexed) (h : List ℕ) (from : ℕ) (old new : List ℕ) (result : Result (Option FoundMatch) CapturesError) : Type 0 where
  pub found : IfOk result (λ o. HasCaptures (config_by v) v.texts h from (length old) o new)
  pub cleared : IfErr result (λ _. new ≡ replicate (length old) no_offset)
  pub refused : IfErr result (IsGroupSearchError v h)

-- The number of groups that the grammar reads in the pattern with a number, group 0 counted. It is 0 if there is no such pattern.
pub record IsGroupCount (v : Regexed) (pattern : ℕ) (n : ℕ) : Type 0 where
  pub counted : (text : List ℕ) (names : Names) → slice_get v.texts pattern ≡ Some text → IsNamedBy (config_by v) text names → n ≡ length names
  pub none : slice_get v.texts pattern ≡ None → n ≡ 0

-- The bytes of a name. There are none if there is no name.
abbrev pub bytes_of_name : Option (List ℕ) → List ℕ
bytes_of_name None = []
bytes_of_name (Some name) = name

-- The name that the grammar reads for a group of the pattern with a number has n bytes, and is written over the old bytes as far as it fits.
-- If there is no such pattern or group, or the group has no name, n is 0 and nothing is written.
pub record IsGroupName (v : Regexed) (pattern group : ℕ) (old new : List ℕ) (n : ℕ) : Type 0 where
  pub counted : (text : List ℕ) (names : Names) → slice_get v.texts pattern ≡ Some text → IsNamedBy (config_by v) text names →
      n ≡ length (bytes_of_name (name_at names group))
  pub written : (text : List ℕ) (names : Names) → slice_get v.texts pattern ≡ Some text → IsNamedBy (config_by v) text names →
      new ≡ overlaid (bytes_of_name (name_at names group)) old
  pub none : slice_get v.texts pattern ≡ None → n ≡ 0
  pub kept : slice_get v.texts pattern ≡ None → new ≡ old
