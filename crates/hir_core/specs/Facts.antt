-- What is known of a tree without a haystack. Sums and products stop at the largest `usize`.
use Rattle.std.specs.Prelude.{◌≡◌, ℕ, zero, suc, ◌+◌, ◌-◌, ◌*◌, ◌^◌, ◌<◌, ◌≤◌, min, max, Bool, true, false, ◌&&◌, ◌==◌, nat_lt, nat_le}
use Rattle.std.specs.Prelude.{IsTrue, List, [], ◌∷◌, length, Option, Some, None, if◌then◌else◌}
use Rattle.std.specs.List.{list_all}
use Rattle.std.specs.Str.{is_utf8}
use Rattle.search_core.specs.Characters.{spelling_len}
use Rattle.look_core.specs.Codes.{repr}
use Rattle.look_core.specs.LookSets.{union_of, shared_by}
use Rattle.hir_core.specs.Sequences.{utf8_sequences}
use Rattle.hir_core.specs.Tree.{Tree, empty, literal, byte_class, char_class, look, repetition, capture, nothing, cat, never, alt}

-- what a saturating sum or product gives
abbrev pub capped : ℕ → ℕ
capped n = min n (2 ^ 64 - 1)

-- the sum of two lengths, if both are there
abbrev pub sum_of_both : Option ℕ → Option ℕ → Option ℕ
sum_of_both None b = None
sum_of_both (Some a) None = None
sum_of_both (Some a) (Some b) = Some (capped (a + b))

-- the lesser of two lengths, or the one that is there
abbrev pub least_of_either : Option ℕ → Option ℕ → Option ℕ
least_of_either None b = b
least_of_either (Some a) None = Some a
least_of_either (Some a) (Some b) = Some (min a b)

-- the greater of two lengths, if both are there
abbrev pub greatest_of_both : Option ℕ → Option ℕ → Option ℕ
greatest_of_both None b = None
greatest_of_both (Some a) None = None
greatest_of_both (Some a) (Some b) = Some (max a b)

-- the length of so many rounds of a body; zero rounds consume nothing, whatever the body is
abbrev pub times : ℕ → Option ℕ → Option ℕ
times zero b = Some 0
times (suc n) None = None
times (suc n) (Some b) = Some (capped (b * suc n))

-- the most bytes of so many rounds of a body; None: no bound is stated
abbrev pub times_most : Option ℕ → Option ℕ → Option ℕ
times_most None b = None
times_most (Some n) None = None
times_most (Some n) (Some b) = Some (capped (b * n))

-- how many bytes spell a scalar of the ranges, at least and at most
abbrev pub least_spelling : List (ℕ × ℕ) → Option ℕ
least_spelling [] = None
least_spelling (r ∷ rs) = least_of_either (Some (spelling_len r.0)) (least_spelling rs)

abbrev pub longest_of : ℕ → List (ℕ × ℕ) → ℕ
longest_of n [] = n
longest_of n (r ∷ rs) = longest_of (max n (spelling_len r.1)) rs

abbrev pub longest_spelling : List (ℕ × ℕ) → Option ℕ
longest_spelling [] = None
longest_spelling (r ∷ rs) = Some (longest_of 0 (r ∷ rs))

-- a length that no span of the tree is below; None: the tree matches no span
abbrev pub minimum_len : Tree → Option ℕ
minimum_len empty = Some 0
minimum_len (literal bytes) = Some (length bytes)
minimum_len (byte_class []) = None
minimum_len (byte_class (r ∷ rs)) = Some 1
minimum_len (char_class ranges) = least_spelling ranges
minimum_len (look l) = Some 0
minimum_len (repetition min most greedy x) = times min (minimum_len x)
minimum_len (capture index name x) = minimum_len x
minimum_len nothing = Some 0
minimum_len (cat x y) = sum_of_both (minimum_len x) (minimum_len y)
minimum_len never = None
minimum_len (alt x y) = least_of_either (minimum_len x) (minimum_len y)

-- whether the tree is the alternation of no parts, where an alternation's spine ends
abbrev pub is_never : Tree → Bool
is_never never = true
is_never _ = false

-- a length that no span of the tree is above; None: no bound is stated
abbrev pub maximum_len : Tree → Option ℕ
maximum_len empty = Some 0
maximum_len (literal bytes) = Some (length bytes)
maximum_len (byte_class []) = None
maximum_len (byte_class (r ∷ rs)) = Some 1
maximum_len (char_class ranges) = longest_spelling ranges
maximum_len (look l) = Some 0
maximum_len (repetition min most greedy x) = times_most most (maximum_len x)
maximum_len (capture index name x) = maximum_len x
maximum_len nothing = Some 0
maximum_len (cat x y) = sum_of_both (maximum_len x) (maximum_len y)
maximum_len never = None
maximum_len (alt x y) = if is_never y then maximum_len x else greatest_of_both (maximum_len x) (maximum_len y)

-- whether the definition finds that each span of the tree that isn't empty is UTF-8
abbrev pub is_utf8_tree : Tree → Bool
is_utf8_tree empty = true
is_utf8_tree (literal bytes) = is_utf8 bytes
is_utf8_tree (byte_class ranges) = list_all (λ r. nat_lt r.1 0x80) ranges
is_utf8_tree (char_class ranges) = true
is_utf8_tree (look l) = true
is_utf8_tree (repetition min most greedy x) = is_utf8_tree x
is_utf8_tree (capture index name x) = is_utf8_tree x
is_utf8_tree nothing = true
is_utf8_tree (cat x y) = is_utf8_tree x && is_utf8_tree y
is_utf8_tree never = true
is_utf8_tree (alt x y) = is_utf8_tree x && is_utf8_tree y

-- all looks in the tree
abbrev pub look_set : Tree → ℕ
look_set empty = 0
look_set (literal bytes) = 0
look_set (byte_class ranges) = 0
look_set (char_class ranges) = 0
look_set (look l) = repr l
look_set (repetition min most greedy x) = look_set x
look_set (capture index name x) = look_set x
look_set nothing = 0
look_set (cat x y) = union_of (look_set x) (look_set y)
look_set never = 0
look_set (alt x y) = union_of (look_set x) (look_set y)

-- none of the body's looks need hold if the minimum number of rounds is 0
abbrev pub if_owed : ℕ → ℕ → ℕ
if_owed zero s = 0
if_owed (suc min) s = s

-- whether no span of the tree consumes a byte
abbrev pub reads_nothing : Option ℕ → Bool
reads_nothing None = false
reads_nothing (Some n) = n == 0

-- Looks that hold at the start of each span. Those of a concatenation are those of its parts up to the first that may consume a
-- byte, this one included. Those of an alternation are those that all its parts have.
abbrev pub look_set_prefix : Tree → ℕ
look_set_prefix empty = 0
look_set_prefix (literal bytes) = 0
look_set_prefix (byte_class ranges) = 0
look_set_prefix (char_class ranges) = 0
look_set_prefix (look l) = repr l
look_set_prefix (repetition min most greedy x) = if_owed min (look_set_prefix x)
look_set_prefix (capture index name x) = look_set_prefix x
look_set_prefix nothing = 0
look_set_prefix (cat x y) = if reads_nothing (maximum_len x) then union_of (look_set_prefix x) (look_set_prefix y) else look_set_prefix x
look_set_prefix never = 0
look_set_prefix (alt x y) = if is_never y then look_set_prefix x else shared_by (look_set_prefix x) (look_set_prefix y)

-- looks that hold at the end of each span: the mirror image
abbrev pub look_set_suffix : Tree → ℕ
look_set_suffix empty = 0
look_set_suffix (literal bytes) = 0
look_set_suffix (byte_class ranges) = 0
look_set_suffix (char_class ranges) = 0
look_set_suffix (look l) = repr l
look_set_suffix (repetition min most greedy x) = if_owed min (look_set_suffix x)
look_set_suffix (capture index name x) = look_set_suffix x
look_set_suffix nothing = 0
look_set_suffix (cat x y) = if reads_nothing (maximum_len y) then union_of (look_set_suffix x) (look_set_suffix y) else look_set_suffix y
look_set_suffix never = 0
look_set_suffix (alt x y) = if is_never y then look_set_suffix x else shared_by (look_set_suffix x) (look_set_suffix y)

-- the looks that decide which spans the tree matches: those outside each repetition of no rounds
abbrev pub looks_used : Tree → ℕ
looks_used empty = 0
looks_used (literal bytes) = 0
looks_used (byte_class ranges) = 0
looks_used (char_class ranges) = 0
looks_used (look l) = repr l
looks_used (repetition min (Some zero) greedy x) = 0
looks_used (repetition min most greedy x) = looks_used x
looks_used (capture index name x) = looks_used x
looks_used nothing = 0
looks_used (cat x y) = union_of (looks_used x) (looks_used y)
looks_used never = 0
looks_used (alt x y) = union_of (looks_used x) (looks_used y)

-- what a contract sees of a tree's `Properties`
pub record Facts : Type 0 where
  pub minimum_len : Option ℕ
  pub maximum_len : Option ℕ
  pub is_utf8 : Bool
  pub look_set : ℕ
  pub look_set_prefix : ℕ
  pub look_set_suffix : ℕ

-- what is known of the tree
abbrev pub facts : Tree → Facts
facts x = record {
  minimum_len = minimum_len x;
  maximum_len = maximum_len x;
  is_utf8 = is_utf8_tree x;
  look_set = look_set x;
  look_set_prefix = look_set_prefix x;
  look_set_suffix = look_set_suffix x;
}

-- the span i..j is at least so long; None: there is no such span
abbrev pub IsAtLeast : Option ℕ → ℕ → ℕ → Type 0
IsAtLeast None i j = ⊥
IsAtLeast (Some n) i j = i + n ≤ j

-- the span i..j is at most so long; None: nothing is stated
abbrev pub IsAtMost : Option ℕ → ℕ → ℕ → Type 0
IsAtMost None i j = Unit {0}
IsAtMost (Some n) i j = j ≤ i + n

-- 1 for a leaf and if there are no parts; otherwise one more than the highest part. The rest of a concatenation or an alternation,
-- the y of `cat x y` and `alt x y`, adds no level of its own.
abbrev pub height : Tree → ℕ
height empty = 1
height (literal bytes) = 1
height (byte_class ranges) = 1
height (char_class ranges) = 1
height (look l) = 1
height (repetition min most greedy x) = capped (height x + 1)
height (capture index name x) = capped (height x + 1)
height nothing = 1
height (cat x y) = max (capped (height x + 1)) (height y)
height never = 1
height (alt x y) = max (capped (height x + 1)) (height y)

-- The count of a repetition whose body has count n: min copies of the body, and one more than a copy for each round
-- that may follow; without a bound at least one copy, and three more.
abbrev pub repeated_count : ℕ → Option ℕ → ℕ → ℕ
repeated_count min None n = capped (max min 1 * n + 3)
repeated_count min (Some most) n = capped (min * n + (most - min) * (n + 1) + 1)

-- how many sequences of byte ranges spell the scalars of the ranges
abbrev pub sequence_count : List (ℕ × ℕ) → ℕ
sequence_count [] = 0
sequence_count (r ∷ rs) = length (utf8_sequences r.0 r.1) + sequence_count rs

-- a bound on the states that a compile of the tree makes
abbrev pub count : Tree → ℕ
count empty = 1
count (literal bytes) = capped (2 * length bytes + 1)
count (byte_class ranges) = 2
count (char_class ranges) = capped (2 + 4 * sequence_count ranges)
count (look l) = 1
count (repetition min most greedy x) = repeated_count min most (count x)
count (capture index name x) = capped (2 + count x)
count nothing = 1
count (cat x y) = capped (count x + count y)
count never = 4
count (alt x y) = capped (count x + count y)

-- the same for a compile of a list of trees
abbrev pub list_count : List Tree → ℕ
list_count [] = 4
list_count (x ∷ xs) = capped (count x + 3 + list_count xs)

-- whether the ranges rise from this byte on: each starts at or above the end of the one before it plus one, and ends at or above
-- its start
abbrev pub rises_from : ℕ → List (ℕ × ℕ) → Bool
rises_from low [] = true
rises_from low (r ∷ rs) = nat_le low r.0 && nat_le r.0 r.1 && rises_from (r.1 + 1) rs

-- whether ranges are ascending and disjoint, each with its start at most its end
abbrev pub is_ascending : List (ℕ × ℕ) → Bool
is_ascending ranges = rises_from 0 ranges

-- what the constructors require of the node at the top of the tree
abbrev pub IsWellFormed : Tree → Type 0
IsWellFormed (byte_class ranges) = IsTrue (is_ascending ranges)
IsWellFormed (char_class ranges) = IsTrue (is_ascending ranges)
IsWellFormed (repetition min (Some most) greedy x) = min ≤ most
IsWellFormed _ = Unit {0}

-- the length is stated, and not 0
abbrev pub IsAboveZero : Option ℕ → Type 0
IsAboveZero None = ⊥
IsAboveZero (Some n) = 0 < n

-- The precondition on bodies: the body of every repetition without a bound has a minimum length above 0, so that each of its
-- rounds consumes at least one byte.
abbrev pub LoopsRead : Tree → Type 0
LoopsRead empty = Unit {0}
LoopsRead (literal bytes) = Unit {0}
LoopsRead (byte_class ranges) = Unit {0}
LoopsRead (char_class ranges) = Unit {0}
LoopsRead (look l) = Unit {0}
LoopsRead (repetition min None greedy x) = IsAboveZero (minimum_len x) × LoopsRead x
LoopsRead (repetition min (Some most) greedy x) = LoopsRead x
LoopsRead (capture index name x) = LoopsRead x
LoopsRead nothing = Unit {0}
LoopsRead (cat x y) = LoopsRead x × LoopsRead y
LoopsRead never = Unit {0}
LoopsRead (alt x y) = LoopsRead x × LoopsRead y

-- what a `Hir` stores with its node
pub record KeepsFacts (x : Tree) (known : Facts) (levels states : ℕ) : Type 0 where
  pub known_facts : known ≡ facts x
  pub height_is : levels ≡ height x
  pub count_is : states ≡ count x
  pub well_formed : IsWellFormed x
