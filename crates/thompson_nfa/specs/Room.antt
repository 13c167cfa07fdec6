-- How many states a compile may make: as `count` says, but for a class of scalars that is shrunk.
use Rattle.std.specs.Prelude.{ℕ, ◌+◌, ◌*◌, Bool, true, false, List, [], ◌∷◌, length}
use Rattle.hir_core.specs.Tree.{Tree, empty, literal, byte_class, char_class, look, repetition, capture, nothing, cat, never, alt}
use Rattle.hir_core.specs.Facts.{capped, repeated_count, sequence_count}
use Rattle.thompson_nfa.specs.ScalarCounts.{scalars_in}

-- a class of scalars: four for each sequence, or for each scalar where it is shrunk, and two more
abbrev pub class_room : Bool → List (ℕ × ℕ) → ℕ
class_room false ranges = capped (2 + 4 * sequence_count ranges)
class_room true ranges = capped (2 + 4 * scalars_in ranges)

abbrev pub room : Bool → Tree → ℕ
room shrink empty = 1
room shrink (literal bytes) = capped (2 * length bytes + 1)
room shrink (byte_class ranges) = 2
room shrink (char_class ranges) = class_room shrink ranges
room shrink (look l) = 1
room shrink (repetition min most greedy x) = repeated_count min most (room shrink x)
room shrink (capture index name x) = capped (2 + room shrink x)
room shrink nothing = 1
room shrink (cat x y) = capped (room shrink x + room shrink y)
room shrink never = 4
room shrink (alt x y) = capped (room shrink x + room shrink y)

-- the same for a compile of a list of trees
abbrev pub list_room : Bool → List Tree → ℕ
list_room shrink [] = 4
list_room shrink (x ∷ xs) = capped (room shrink x + 3 + list_room shrink xs)
