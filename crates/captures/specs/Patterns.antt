-- The groups of patterns.
use Rattle.std.specs.Prelude.{◌≡◌, ℕ, ◌+◌, List, [], ◌∷◌, Some, None, IfErr, IfSome, OnOk, Option, Result, ⊤, is_some, length, string_bytes, true}
use Rattle.regex_syntax.specs.declared.Config.{Config}
use Rattle.group_finder.specs.Errors.{IsNewError}
use Rattle.group_finder.specs.Patterns.{IsNamedBy, IsPattern}
use Rattle.group_finder.specs.Groups.{IsFinderOf, finder_bytes}
use Rattle.group_finder.specs.declared.errors.NewError.{NewError}
use Rattle.group_finder.specs.declared.finder.GroupFinder.{GroupFinder}
use Rattle.captures.specs.declared.pattern_groups.PatternGroups.{PatternGroups}

-- This is of the pattern, parsed under these options: its bytes, the names of its groups, and the finder of its groups if there is one.
pub record IsPatternGroups (config : Config) (text : List ℕ) (p : PatternGroups) : Type 0 where
  pub text_is : string_bytes p.text ≡ text
  pub parsed : IsPattern config text
  pub named : IsNamedBy config text p.names
  pub finder : IfSome p.finder (IsFinderOf config text)

-- Each is of the pattern with its number.
abbrev pub ArePatternGroups : Config → List (List ℕ) → List PatternGroups → Type 0
ArePatternGroups config [] [] = ⊤
ArePatternGroups config (t ∷ ts) (p ∷ ps) = IsPatternGroups config t p × ArePatternGroups config ts ps
ArePatternGroups config _ _ = ⊥

-- If the call returns `Ok`, the finder is made. One that was made before stays, and all of this is still of the same pattern.
pub record MakesFinder (config : Config) (limit : ℕ) (old new : PatternGroups) (result : Result ⊤ NewError) : Type 0 where
  pub own : (text : List ℕ) → IsPatternGroups config text old → IsPatternGroups config text new
  pub made : OnOk result (is_some new.finder ≡ true)
  pub kept : is_some old.finder ≡ true → is_some new.finder ≡ true
  pub refused : (text : List ℕ) → IsPatternGroups config text old → IfErr result (IsNewError config text limit)

-- ---- memory

-- The bytes of what finds the groups of a pattern, if it is made.
abbrev pub found_bytes : Option GroupFinder → ℕ
found_bytes None = 0
found_bytes (Some g) = finder_bytes g

-- The bytes that are counted for a pattern: its own, and those of what finds its groups.
abbrev pub pattern_bytes : PatternGroups → ℕ
pattern_bytes p = length (string_bytes p.text) + found_bytes p.finder

-- The bytes that are counted for all patterns.
abbrev pub all_bytes : List PatternGroups → ℕ
all_bytes [] = 0
all_bytes (p ∷ ps) = pattern_bytes p + all_bytes ps
