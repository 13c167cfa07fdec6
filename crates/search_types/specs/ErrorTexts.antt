-- The messages of the errors of a search, of groups and of sets of patterns.
use Rattle.std.specs.Prelude.{ℕ, List, ◌++◌, codes, string_bytes}
use Rattle.std.specs.Fmt.{decimal}
use Rattle.search_core.specs.ErrorTexts.{pattern_id_text}
use Rattle.search_types.specs.PatternSets.{InsertErrorValue}
use Rattle.search_types.specs.declared.group_info_error.GroupInfoError.{GroupInfoError}
use Rattle.search_types.specs.declared.group_info_error.GroupInfoError.TheVariants as group
use Rattle.search_types.specs.declared.anchored.Anchored.{Anchored}
use Rattle.search_types.specs.declared.anchored.Anchored.TheVariants.{No, Yes, Pattern}
use Rattle.search_types.specs.declared.match_error.MatchErrorKind.{MatchErrorKind}
use Rattle.search_types.specs.declared.match_error.MatchErrorKind.TheVariants.{Quit, GaveUp, HaystackTooLong, UnsupportedAnchored, NotAPair}
use Rattle.search_types.specs.declared.match_error.MatchErrorKind.TheVariants.{NoMemory}

-- a mode that an automaton can't search in
abbrev pub mode_text : Anchored → List ℕ
mode_text No = codes "there is no start for searches that are not anchored"
mode_text Yes = codes "there is no start for anchored searches"
mode_text (Pattern p) = codes "there is no start for searches anchored to pattern " ++ decimal p

-- an error by its kind
abbrev pub error_text : MatchErrorKind → List ℕ
error_text (Quit byte offset) = codes "quit at byte " ++ (decimal byte ++ (codes " at offset " ++ decimal offset))
error_text (GaveUp offset) = codes "gave up at offset " ++ decimal offset
error_text (HaystackTooLong len) = codes "haystack of " ++ (decimal len ++ codes " bytes is too long")
error_text (UnsupportedAnchored mode) = mode_text mode
error_text NotAPair = codes "forward and reverse automata are no pair"
error_text NoMemory = codes "out of memory"

-- groups that can't be accepted
abbrev pub group_error_text : GroupInfoError → List ℕ
group_error_text (group.TooManyPatterns attempted) = codes "too many patterns: " ++ pattern_id_text attempted
group_error_text (group.TooManyGroups p minimum) = codes "pattern " ++ (decimal p
    ++ (codes " has too many groups, at least " ++ decimal minimum))
group_error_text (group.MissingGroups p) = codes "pattern " ++ (decimal p ++ codes " has no groups")
group_error_text (group.FirstMustBeUnnamed p) = codes "the first group of pattern " ++ (decimal p ++ codes " has a name")
group_error_text (group.Duplicate p name) = codes "two groups of pattern "
    ++ (decimal p ++ (codes " have the name '" ++ (string_bytes name ++ codes "'")))
group_error_text group.NoMemory = codes "out of memory"

-- a pattern for which a set has no room
abbrev pub insert_error_text : InsertErrorValue → List ℕ
insert_error_text r = codes "pattern " ++ (decimal r.attempted ++ (codes " is not below the set's capacity " ++ decimal r.capacity))
