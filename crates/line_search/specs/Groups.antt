-- The groups of a match, as a search by the toolchain's program finds them.
use Rattle.std.specs.Prelude.{◌≡◌, ◌-◌, ◌^◌, ◌<◌, ◌∷◌, ℕ, All, List, map, length, Option, Some, None, IfSome, option_map}
use Rattle.regex_hir.specs.Find.{Match, find_after}
use Rattle.regex_vm.specs.Found.{group_cells}
use Rattle.pattern_search.specs.Searches.{span_of_match}
use Rattle.group_finder.specs.Slots.{offset_of_cell}

-- The first match, or the next one after a match with this end.
abbrev pub comes : (ℕ → Option Match) → Option ℕ → Option Match
comes find_from None = find_from 0
comes find_from (Some end) = find_after find_from end

-- This is the span of the match if there is one, and these are the cells of its groups from group 1 on.
pub record HasGroups (found : Option Match) (span : Option (ℕ × ℕ)) (cells : List ℕ) : Type 0 where
  pub span_is : span ≡ option_map span_of_match found
  pub cells_are : IfSome found (λ m. cells ≡ group_cells m (length cells))

-- These are the slots of a match: its start and its end, and then those of its groups from group 1 on. The cells of the groups are numbers
-- that fit into a word.
pub record AreSlots (m : Match) (slots : List ℕ) : Type 0 where
  pub all : slots ≡ m.start ∷ m.trace.end ∷ map offset_of_cell (group_cells m (length slots - 2))
  pub small : All (λ cell. cell < 2 ^ 64) (group_cells m (length slots - 2))
