-- The definitions, run on small trees: values by hand from the leftmost-first rules.
use Rattle.std.proofs.Common.{◌≡◌, ℕ, List, true, false, [], ◌∷◌, codes, Some, None, refl}
use Rattle.look_core.specs.declared.look.Look.TheVariants.{Start, End, WordAscii}
use Rattle.look_core.specs.Terminators.{one_of}
use Rattle.look_core.specs.Looks.{holds_ascii}
use Rattle.hir_core.specs.Tree.{Tree, empty, literal, byte_class, char_class, look, repetition, capture, concat, alternation}
use Rattle.hir_core.specs.PreferredEnds.{Ends, preferred_ends}
use Rattle.hir_core.specs.Facts.{minimum_len, maximum_len, is_utf8_tree, look_set, look_set_prefix, look_set_suffix, looks_used, height}
use Rattle.hir_core.specs.Facts.{count, list_count, is_ascending}

-- with words as ASCII bytes, and lines that end at a line feed
abbrev ends : List ℕ → Tree → Ends
ends h x = preferred_ends (holds_ascii (one_of 0x0A) h) h x

abbrev a : Tree
a = literal (codes "a")

-- `a*` takes as many as there are, and gives them back one by one; `a*?` vice versa
greedy_rounds : ends (codes "aab") (repetition 0 None true a) 0 ≡ 2 ∷ 1 ∷ 0 ∷ []
greedy_rounds = refl

lazy_rounds : ends (codes "aab") (repetition 0 None false a) 0 ≡ 0 ∷ 1 ∷ 2 ∷ []
lazy_rounds = refl

-- `a{1,2}` on "aaa", and `a{2,}` on "a"
bounded_rounds : ends (codes "aaa") (repetition 1 (Some 2) true a) 0 ≡ 2 ∷ 1 ∷ []
bounded_rounds = refl

too_few_rounds : ends (codes "a") (repetition 2 None true a) 0 ≡ []
too_few_rounds = refl

-- `samwise|sam` and `sam|samwise` on "samwise": the earlier part first
earlier_part_first : ends (codes "samwise") (alternation (literal (codes "sam") ∷ literal (codes "samwise") ∷ [])) 0 ≡ 3 ∷ 7 ∷ []
earlier_part_first = refl

later_part_second : ends (codes "samwise") (alternation (literal (codes "samwise") ∷ literal (codes "sam") ∷ [])) 0 ≡ 7 ∷ 3 ∷ []
later_part_second = refl

-- `|a`: the empty part comes first
empty_part_first : ends (codes "ab") (alternation (empty ∷ a ∷ [])) 0 ≡ 0 ∷ 1 ∷ []
empty_part_first = refl

-- `(|a)*` on "a": a round that consumes nothing finds an end again, and hides none
empty_rounds : ends (codes "a") (repetition 0 None true (alternation (empty ∷ a ∷ []))) 0 ≡ 0 ∷ 1 ∷ 0 ∷ []
empty_rounds = refl

-- a concatenation of no parts consumes nothing, and an alternation of no parts has no end
no_part_no_byte : ends (codes "a") (concat []) 1 ≡ 1 ∷ []
no_part_no_byte = refl

no_part_no_end : ends (codes "a") (alternation []) 0 ≡ []
no_part_no_end = refl

-- `([0-9]{4})-([0-9]{2})-([0-9]{2})` without its groups
abbrev digit : Tree
digit = byte_class ((48, 57) ∷ [])

abbrev digits : ℕ → Tree
digits n = repetition n (Some n) true digit

abbrev date : Tree
date = concat (digits 4 ∷ literal (codes "-") ∷ digits 2 ∷ literal (codes "-") ∷ digits 2 ∷ [])

date_ends : ends (codes "2018-12-24") date 0 ≡ 10 ∷ []
date_ends = refl

date_count : list_count (date ∷ []) ≡ 33
date_count = refl

date_minimum_len : minimum_len date ≡ Some 10
date_minimum_len = refl

date_height : height date ≡ 3
date_height = refl

-- no rounds at all: one state, whatever the body is
no_rounds_count : count (repetition 0 (Some 0) true date) ≡ 1
no_rounds_count = refl

ranges_ascend : is_ascending ((48, 57) ∷ (58, 58) ∷ (97, 122) ∷ []) ≡ true
ranges_ascend = refl

ranges_meet : is_ascending ((48, 57) ∷ (57, 58) ∷ []) ≡ false
ranges_meet = refl

range_turned_round : is_ascending ((57, 48) ∷ []) ≡ false
range_turned_round = refl

-- `\bsam\b`: no byte of a word is next to the offset after `sam`
abbrev whole_word : Tree
whole_word = concat (look WordAscii ∷ literal (codes "sam") ∷ look WordAscii ∷ [])

word_alone : ends (codes "sam, wise") whole_word 0 ≡ 3 ∷ []
word_alone = refl

word_goes_on : ends (codes "samwise") whole_word 0 ≡ []
word_goes_on = refl

-- a look consumes nothing: `^` at the start and after it
start_at_start : ends (codes "ab") (look Start) 0 ≡ 0 ∷ []
start_at_start = refl

start_elsewhere : ends (codes "ab") (look Start) 1 ≡ []
start_elsewhere = refl

-- a group means what its body means
group_is_its_body : ends (codes "aab") (capture 1 (Some (codes "as")) (repetition 0 None true a)) 0 ≡ 2 ∷ 1 ∷ 0 ∷ []
group_is_its_body = refl

-- `[a-zα-ω]`: the letter `a`, the two bytes of alpha, and the first of these two alone
abbrev letter : Tree
letter = char_class ((97, 122) ∷ (945, 969) ∷ [])

ascii_character : ends (codes "ab") letter 0 ≡ 1 ∷ []
ascii_character = refl

greek_character : ends (0xCE ∷ 0xB1 ∷ 0x61 ∷ []) letter 0 ≡ 2 ∷ []
greek_character = refl

inside_a_character : ends (0xCE ∷ 0xB1 ∷ 0x61 ∷ []) letter 1 ≡ []
inside_a_character = refl

cut_character : ends (0xCE ∷ []) letter 0 ≡ []
cut_character = refl

letter_minimum_len : minimum_len letter ≡ Some 1
letter_minimum_len = refl

letter_maximum_len : maximum_len letter ≡ Some 2
letter_maximum_len = refl

-- lengths at most: no bound of rounds, no rounds of a body without a bound, and no parts
date_maximum_len : maximum_len date ≡ Some 10
date_maximum_len = refl

rounds_without_bound : maximum_len (repetition 2 None true digit) ≡ None
rounds_without_bound = refl

no_rounds_of_no_bound : maximum_len (repetition 0 (Some 0) true (byte_class [])) ≡ None
no_rounds_of_no_bound = refl

longest_part : maximum_len (alternation (a ∷ date ∷ empty ∷ [])) ≡ Some 10
longest_part = refl

part_without_bound : maximum_len (alternation (a ∷ byte_class [] ∷ [])) ≡ None
part_without_bound = refl

no_part_maximum_len : maximum_len (alternation []) ≡ None
no_part_maximum_len = refl

-- a class of bytes is seen to be UTF-8 if it has ASCII alone
class_of_ascii : is_utf8_tree (byte_class ((0, 0x7F) ∷ [])) ≡ true
class_of_ascii = refl

class_above_ascii : is_utf8_tree (concat (digit ∷ byte_class ((0x41, 0x80) ∷ []) ∷ [])) ≡ false
class_above_ascii = refl

-- `^a$`, `a^`, `^|a`, `^a|^b` and `(^)*`: the looks at the start, the bit of `^` being 1 and that of `$` 2
abbrev anchored : Tree
anchored = concat (look Start ∷ a ∷ look End ∷ [])

anchored_looks : look_set anchored ≡ 3
anchored_looks = refl

anchored_prefix : look_set_prefix anchored ≡ 1
anchored_prefix = refl

anchored_suffix : look_set_suffix anchored ≡ 2
anchored_suffix = refl

look_behind_a_byte : look_set_prefix (concat (a ∷ look Start ∷ [])) ≡ 0
look_behind_a_byte = refl

look_of_one_part : look_set_prefix (alternation (look Start ∷ a ∷ [])) ≡ 0
look_of_one_part = refl

look_of_all_parts : look_set_prefix (alternation (anchored ∷ look Start ∷ [])) ≡ 1
look_of_all_parts = refl

look_not_owed : look_set_prefix (repetition 0 None true (look Start)) ≡ 0
look_not_owed = refl

look_owed : look_set_suffix (repetition 1 None true (look End)) ≡ 2
look_owed = refl

look_of_no_rounds : looks_used (concat (repetition 0 (Some 0) true (look Start) ∷ look End ∷ [])) ≡ 2
look_of_no_rounds = refl

group_height : height (capture 1 None date) ≡ 4
group_height = refl

group_count : count (capture 1 None digit) ≡ 4
group_count = refl
