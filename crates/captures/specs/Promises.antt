-- What calls promise, a record for the functions that pass the results of one another on. After each of them, the cache is still one of the
-- regex, and the groups are still those of its patterns.
use Rattle.std.specs.Prelude.{◌≡◌, ◌≤◌, ℕ, List, Option, Some, Result, IfErr, IfOk, OnErr, OnOk, ⊤, length, replicate}
use Rattle.regex_hir.specs.Re.{Re, accept, attempt}
use Rattle.regex_hir.specs.Meaning.{alt_all}
use Rattle.regex_hir.specs.Find.{Match}
use Rattle.pattern_search.specs.Searches.{span_of_match, IsOfFirstPattern}
use Rattle.pattern_search.specs.Texts.{AreReadAs}
use Rattle.meta_regex.specs.declared.cache.Cache.{Cache}
use Rattle.meta_regex.specs.declared.found_match.FoundMatch.{FoundMatch}
use Rattle.meta_regex.specs.declared.options.Options.{Options}
use Rattle.meta_regex.specs.Caches.{IsCacheOf}
use Rattle.meta_regex.specs.Regexes.{AreAll, AreFirstOfAll, HasPattern, RegexValue, as_found, config_by, span_of_row}
use Rattle.group_finder.specs.declared.errors.NewError.{NewError}
use Rattle.group_finder.specs.Slots.{no_offset, slots_of}
use Rattle.captures.specs.declared.errors.CapturesError.{CapturesError}
use Rattle.captures.specs.declared.groups.Groups.{Groups}
use Rattle.captures.specs.declared.replacement.Replacement.{Replacement}
use Rattle.captures.specs.Captures.{AreCaptured, AreFirstCaptured}
use Rattle.captures.specs.Errors.{IsCapturesError, IsPrepareError}
use Rattle.captures.specs.Groups.{AreGroupsOf, IsPrepared}
use Rattle.captures.specs.NextMatches.{AreNext, AreNextBegun, AreNextCaptured, IsFullOrLast}
use Rattle.captures.specs.Replacing.{AreAllPieces, AreFirstPieces, IsReplaced, IsReplacementFor, Said}

-- ---- groups

-- If the call returns `Ok`, what it was to prepare is prepared. What was prepared before stays so.
pub record Prepares (old new : Groups) (IsDone : Type 0) (result : Result ⊤ NewError) : Type 0 where
  pub own : (o : Options) (texts : List (List ℕ)) → AreGroupsOf o texts old → AreGroupsOf o texts new
  pub made : OnOk result IsDone
  pub kept : (n : ℕ) → IsPrepared old n → IsPrepared new n
  pub refused : (o : Options) (texts : List (List ℕ)) → AreGroupsOf o texts old → IfErr result (IsPrepareError o)

-- The groups are still those of the same patterns, and an error is one of a search with groups.
pub record KeepsGroups {A : Type 0} (old new : Groups) (result : Result A CapturesError) : Type 0 where
  pub own : (o : Options) (texts : List (List ℕ)) → AreGroupsOf o texts old → AreGroupsOf o texts new
  pub refused : (o : Options) (texts : List (List ℕ)) → AreGroupsOf o texts old → (h : List ℕ) → IfErr result (IsCapturesError o h)

-- ---- one match

-- A search of a haystack. What it returns is as wanted, and is of the first pattern that matches from its start.
pub record FindsMatch (r : RegexValue) (c : Cache) (g : Groups) (h : List ℕ) (IsWanted : Option FoundMatch → Type 0)
    (result : Result (Option FoundMatch) CapturesError) : Type 0 where
  pub own : IsCacheOf r c
  pub groups : AreGroupsOf r.options r.texts g
  pub found : IfOk result IsWanted
  pub pattern : IfOk result (HasPattern (config_by r) r.texts h)
  pub refused : IfErr result (IsCapturesError r.options h)

-- The slots of a match that was found are written. After an error, they hold no offset.
pub record WritesSlots (old new : Groups) (h : List ℕ) (f : FoundMatch) (before after : List ℕ) (result : Result ⊤ CapturesError) : Type 0 where
  pub written : (o : Options) (texts : List (List ℕ)) → AreGroupsOf o texts old → (res : List Re) → AreReadAs o.syntax texts res →
      IsOfFirstPattern res h (as_found f) → (m : Match) → span_of_match m ≡ span_of_row f → m.start ≤ length h →
      attempt h (alt_all res) accept m.start ≡ Some m.trace → IfOk result (λ _. after ≡ slots_of m (length before))
  pub keeps : KeepsGroups old new result
  pub cleared : IfErr result (λ _. after ≡ replicate (length before) no_offset)

-- ---- several matches

-- All matches are counted, and are in the rows and slots as far as these have room. After an error, this holds of the first matches.
pub record ListsCaptured (r : RegexValue) (c : Cache) (g : Groups) (h : List ℕ) (old new : List FoundMatch) (before after : List ℕ) (width : ℕ)
    (result : ℕ × Result ⊤ CapturesError) : Type 0 where
  pub own : IsCacheOf r c
  pub groups : AreGroupsOf r.options r.texts g
  pub all : IfOk result.1 (λ _. AreAll (config_by r) r.texts h result.0 old new)
  pub first : IfErr result.1 (λ _. AreFirstOfAll (config_by r) r.texts h result.0 old new)
  pub slots : IfOk result.1 (λ _. AreCaptured (config_by r) r.texts h width before after)
  pub begun : IfErr result.1 (λ _. AreFirstCaptured (config_by r) r.texts h width result.0 before after)
  pub refused : IfErr result.1 (IsCapturesError r.options h)

-- The next matches are counted, as many as there are rows. They are in the rows, and in the slots as far as these have room. After an error,
-- this holds of the matches before the search that failed.
pub record ListsNext (r : RegexValue) (c : Cache) (g : Groups) (h : List ℕ) (from to : ℕ) (old new : List FoundMatch) (before after : List ℕ)
    (width : ℕ) (result : ℕ × Result ⊤ CapturesError) : Type 0 where
  pub own : IsCacheOf r c
  pub groups : AreGroupsOf r.options r.texts g
  pub next : AreNext (config_by r) r.texts h from result.0 to old new
  pub all : IfOk result.1 (λ _. IsFullOrLast (config_by r) r.texts h (length old) result.0 to)
  pub slots : IfOk result.1 (λ _. AreNextCaptured (config_by r) r.texts h from width result.0 before after)
  pub begun : IfErr result.1 (λ _. AreNextBegun (config_by r) r.texts h from width result.0 before after)
  pub refused : IfErr result.1 (IsCapturesError r.options h)

-- ---- pieces, and replacements

-- All pieces between matches are counted, and are in the rows as far as these have room. After an error, this holds of the first pieces.
pub record ListsPieces (r : RegexValue) (c : Cache) (g : Groups) (h : List ℕ) (limit : Option ℕ) (old new : List (ℕ × ℕ))
    (result : ℕ × Result ⊤ CapturesError) : Type 0 where
  pub own : IsCacheOf r c
  pub groups : AreGroupsOf r.options r.texts g
  pub all : IfOk result.1 (λ _. AreAllPieces (config_by r) r.texts h limit result.0 old new)
  pub first : IfErr result.1 (λ _. AreFirstPieces (config_by r) r.texts h limit result.0 old new)
  pub refused : IfErr result.1 (IsCapturesError r.options h)

-- The haystack with its first matches replaced is appended to the output. After an error, nothing is.
pub record ReplacesMatches (r : RegexValue) (c : Cache) (g : Groups) (h : List ℕ) (replacement : Replacement) (limit : ℕ) (old new : List ℕ)
    (result : Result ℕ CapturesError) : Type 0 where
  pub own : IsCacheOf r c
  pub groups : AreGroupsOf r.options r.texts g
  pub replaced : (said : Said) → IsReplacementFor (config_by r) r.texts said replacement →
      IfOk result (IsReplaced (config_by r) r.texts h said limit old new)
  pub kept : OnErr result (new ≡ old)
  pub refused : IfErr result (IsCapturesError r.options h)
