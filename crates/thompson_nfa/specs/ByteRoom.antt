-- How many bytes the states of a tree take, as a builder counts them: 24 for each state, 8 for each range of a class and 4 for
-- each way of a choice. Each state that is made counts, also one that the finished automaton leaves out. The figures of trees
-- that share no states are exact. For the others there are two bounds.
use Rattle.std.specs.Prelude.{ℕ, zero, suc, ◌+◌, ◌-◌, ◌*◌, max, Bool, true, false, ◌&&◌, ◌||◌, not, List, [], ◌∷◌, length, nat_lt, Option}
use Rattle.std.specs.Prelude.{Some, None, if◌then◌else◌}
use Rattle.hir_core.specs.BySequences.{sequences_of}
use Rattle.hir_core.specs.Facts.{is_never, minimum_len}
use Rattle.hir_core.specs.Tree.{Tree, empty, literal, byte_class, char_class, look, repetition, capture, nothing, cat, never, alt}
use Rattle.thompson_nfa.specs.AsciiClasses.{is_ascii}
use Rattle.thompson_nfa.specs.Compiled.{is_above_zero}
use Rattle.thompson_nfa.specs.LiteralParts.{is_literal, bytes_of_literal}
use Rattle.thompson_nfa.specs.NotedGroups.{keeps_group}
use Rattle.thompson_nfa.specs.ScalarCounts.{scalars_in}
use Rattle.thompson_nfa.specs.declared.which_captures.WhichCaptures.{WhichCaptures}

-- which bound: the bytes that are taken at least, or those that are taken at most, with classes shrunk or not
pub data Bound : Type 0 where
  at_least : Bound
  at_most : Bool → Bound

-- whether all parts of an alternation are literals
abbrev pub has_literals : Tree → Bool
has_literals never = true
has_literals (alt x y) = is_literal x && has_literals y
has_literals _ = false

-- whether an alternation that has this first part and others has two parts or more, all of them literals
abbrev pub is_choice : Tree → Tree → Bool
is_choice x never = false
is_choice x y = is_literal x && has_literals y

-- Literals that share states: an end, for each of their bytes a state with one transition at most, and for each of them a choice of
-- three ways; and the way from the end.
abbrev pub choice_bytes : Tree → ℕ
choice_bytes never = 28
choice_bytes (alt x y) = 32 * length (bytes_of_literal x) + 36 + choice_bytes y
choice_bytes _ = 0

abbrev pub literals_bytes : Bound → Tree → ℕ
literals_bytes at_least x = 0
literals_bytes (at_most shrink) x = choice_bytes x

-- sequences of byte ranges: a state for each range, and a transition or a way for each sequence
abbrev pub sequence_bytes : List (List (ℕ × ℕ)) → ℕ
sequence_bytes [] = 0
sequence_bytes (q ∷ qs) = 24 * length q + 8 + sequence_bytes qs

-- the sequences of a class; if it is shrunk, one of four ranges for each scalar
abbrev pub class_bytes : Bool → List (ℕ × ℕ) → ℕ
class_bytes false ranges = 52 + sequence_bytes (sequences_of ranges)
class_bytes true ranges = 52 + 104 * scalars_in ranges

abbrev pub sequences_bytes : Bound → List (ℕ × ℕ) → ℕ
sequences_bytes at_least ranges = 0
sequences_bytes (at_most shrink) ranges = class_bytes shrink ranges

-- a class of scalars, which is one of bytes if it is ASCII
abbrev pub scalar_bytes : Bound → List (ℕ × ℕ) → ℕ
scalar_bytes b ranges = if is_ascii ranges then 48 + 8 * length ranges else sequences_bytes b ranges

-- Any number of rounds of n bytes. If each round consumes at least one byte, one choice is both start and end. Otherwise there
-- are two choices and an end.
abbrev pub loop_bytes : Bool → ℕ → ℕ
loop_bytes reads n = n + (if reads then 32 else 88)

-- at least `min` rounds
abbrev pub at_least_bytes : ℕ → Bool → ℕ → ℕ
at_least_bytes zero reads n = loop_bytes reads n
at_least_bytes (suc min) reads n = suc min * n + 32

-- rounds that are required, a choice before each further one, and the end
abbrev pub rounds_bytes : ℕ → ℕ → ℕ → ℕ
rounds_bytes min most n = min * n + (most - min) * (n + 32) + 24

-- so many rounds, or none, which is one state
abbrev pub between_bytes : ℕ → ℕ → ℕ → ℕ
between_bytes min most n = if nat_lt min most then rounds_bytes min most n else (if nat_lt 0 most then min * n else 24)

abbrev pub repeated_bytes : Option ℕ → ℕ → Bool → ℕ → ℕ
repeated_bytes None min reads n = at_least_bytes min reads n
repeated_bytes (Some most) min reads n = between_bytes min most n

-- the two states of a group that is kept
abbrev pub group_bytes : WhichCaptures → ℕ → ℕ
group_bytes which index = if keeps_group which index then 48 else 0

-- An alternation with this first part and others, of so many bytes: one part alone is what it is.
abbrev pub alternative_bytes : Bound → Tree → Tree → ℕ → ℕ → ℕ
alternative_bytes b x y first others = if is_choice x y then literals_bytes b (alt x y)
    else (if is_never y then first else first + 4 + others)

-- The bytes of a tree, with the way by which its end is led on to what follows. `rest`: the tree is what is left of a
-- concatenation or of an alternation after a part of it.
abbrev pub tree_bytes : Bound → WhichCaptures → Bool → Tree → ℕ
tree_bytes b which rest empty = 24
tree_bytes b which rest (literal bytes) = 24 * max (length bytes) 1
tree_bytes b which rest (byte_class ranges) = 48 + 8 * length ranges
tree_bytes b which rest (char_class ranges) = scalar_bytes b ranges
tree_bytes b which rest (look l) = 24
tree_bytes b which rest (repetition min most greedy x) =
    repeated_bytes most min (is_above_zero (minimum_len x)) (tree_bytes b which false x)
tree_bytes b which rest (capture index name x) = group_bytes which index + tree_bytes b which false x
tree_bytes b which rest nothing = if rest then 0 else 24
tree_bytes b which rest (cat x y) = tree_bytes b which false x + tree_bytes b which true y
tree_bytes b which rest never = if rest then 48 else 24
tree_bytes b which rest (alt x y) = if rest then tree_bytes b which false x + 4 + tree_bytes b which true y
    else alternative_bytes b x y (tree_bytes b which false x) (tree_bytes b which true y)

abbrev pub tree_least : WhichCaptures → Tree → ℕ
tree_least which x = tree_bytes at_least which false x

abbrev pub tree_most : WhichCaptures → Bool → Tree → ℕ
tree_most which shrink x = tree_bytes (at_most shrink) which false x

-- whether no two parts of the tree may share states, so that its figure is exact; `rest` is as above
abbrev pub is_unshared : Bool → Tree → Bool
is_unshared rest (char_class ranges) = is_ascii ranges
is_unshared rest (repetition min most greedy x) = is_unshared false x
is_unshared rest (capture index name x) = is_unshared false x
is_unshared rest (cat x y) = is_unshared false x && is_unshared true y
is_unshared rest (alt x y) = (rest || not (is_choice x y)) && (is_unshared false x && is_unshared true y)
is_unshared rest _ = true

-- No class of scalars in the tree goes beyond ASCII, and no alternation in it has two parts or more that are all literals.
abbrev pub shares_no_states : Tree → Bool
shares_no_states x = is_unshared false x
