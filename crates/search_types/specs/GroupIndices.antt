-- A map from the names of a pattern's groups to their indices.
use Rattle.std.specs.Prelude.{◌≡◌, ℕ, ◌+◌, ◌<◌, ◌≤◌, List, length, Option, None, String}
use Rattle.std.specs.HashMap.{HashMap, get_by_text}
use Rattle.std.specs.List.{position}
use Rattle.search_core.specs.Index.{greatest_index}
use Rattle.search_types.specs.Groups.{Name, is_named}
use Rattle.search_types.specs.GroupFaults.{pattern_fault}

-- the map has for each name the index of its group, and nothing else
abbrev pub FindsEach : {A S : Type 0} → List (Option Name) → HashMap (String A) ℕ S → Type 0
FindsEach names indices = (name : Name) → get_by_text indices name ≡ position (is_named name) names

-- such a map for groups that break no rule; there is at least one, and no more than can be numbered
pub record IsIndexed {A S : Type 0} (names : List (Option Name)) (indices : HashMap (String A) ℕ S) : Type 0 where
  pub finds : FindsEach names indices
  pub some : 0 < length names
  pub in_range : length names ≤ greatest_index + 1
  pub sound : pattern_fault 0 names ≡ None
