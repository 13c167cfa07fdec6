-- The definitions, run on small words, lines and classes.
use Rattle.std.proofs.Common.{◌≡◌, ℕ, zero, suc, true, false, List, [], ◌∷◌, codes, Some, None, Option, refl}
use Rattle.hex.proofs.OnLiterals.{hex_on_literals}
use Rattle.search_core.specs.ByteSets.{has}
use Rattle.look_core.specs.Terminators.{one_of, two_of}
use Rattle.look_core.specs.declared.look.Look.TheVariants.{EndCRLF}
use Rattle.lazy_dfa.specs.ConfigValue.{no_bytes as no_quits, by_hand, classes_on, capacity_of}
use Rattle.hir_core.specs.Tree.{Tree, empty, look, repetition}
use Rattle.hirscan.specs.declared.fault.FaultKind.{FaultKind}
use Rattle.hirscan.specs.declared.fault.FaultKind.TheVariants.{UnknownWord, SettingAfterNode, WrongWordCount, BadNumber, BadHex, BadRange}
use Rattle.hirscan.specs.declared.fault.FaultKind.TheVariants.{UnknownLook, BadChoice, MinAboveMax, TooFewTrees, TooDeep, NotOneTree}
use Rattle.hirscan.specs.declared.fault.FaultKind.TheVariants.{TreeLeftOver}
use Rattle.hir_regex.specs.declared.settings.Settings.{Settings}
use Rattle.hirscan.specs.declared.words.LineWord.{LineWord}
use Rattle.hirscan.specs.declared.words.LineWord.TheVariants.{Line, Capacity, Quit, Classes, Shrink, Look}
use Rattle.hirscan.specs.Words.{words, class_ranges, scalar_ranges}
use Rattle.hirscan.specs.Readers.{number, bound, hex_bytes, item_ends, hex_ends}
use Rattle.hirscan.specs.Takes.{QueryValue, at_first}
use Rattle.hirscan.specs.LineFault.{fault, setup_after, new_tree}

-- numbers: no leading zero, no sign, no more than 32 bits
zero_alone : number (codes "0") ≡ Some 0
zero_alone = refl

leading_zero : number (codes "007") ≡ None
leading_zero = refl

plus_sign : number (codes "+7") ≡ None
plus_sign = refl

greatest : number (codes "4294967295") ≡ Some 4294967295
greatest = refl

too_great : number (codes "4294967296") ≡ None
too_great = refl

no_digits : number [] ≡ None
no_digits = refl

without_bound : bound (codes "inf") ≡ Some None
without_bound = refl

-- hexadecimal of either case, two digits to a byte
both_cases : hex_bytes (codes "4aFf") ≡ Some (74 ∷ 255 ∷ [])
unfolding hex_on_literals
both_cases = refl

odd_digits : hex_bytes (codes "4a4") ≡ None
odd_digits = refl

no_bytes : hex_bytes [] ≡ None
unfolding hex_on_literals
no_bytes = refl

-- items of a class
item : item_ends (codes "30-39") ≡ Some (48, 57)
unfolding hex_on_literals
item = refl

item_without_sign : item_ends (codes "30:39") ≡ None
item_without_sign = refl

item_too_long : item_ends (codes "030-39") ≡ None
item_too_long = refl

-- items that meet or overlap are one range
joined : class_ranges ((53, 57) ∷ (48, 52) ∷ (50, 54) ∷ (97, 97) ∷ []) ≡ (48, 57) ∷ (97, 97) ∷ []
unfolding class_ranges
joined = refl

-- items of a class of scalars: one to six digits at each end
scalar_item : hex_ends (codes "3b1-3C9") ≡ Some (945, 969)
scalar_item = refl

scalar_without_digits : hex_ends (codes "61-") ≡ None
scalar_without_digits = refl

seven_digits : hex_ends (codes "0000061-62") ≡ None
seven_digits = refl

-- items that touch are one range, and those on both sides of the surrogates don't touch
touching : scalar_ranges ((101, 102) ∷ (97, 98) ∷ (99, 100) ∷ []) ≡ (97, 102) ∷ []
unfolding scalar_ranges
touching = refl

beside_surrogates : scalar_ranges ((0xE000, 0xE0FF) ∷ (0xD700, 0xD7FF) ∷ []) ≡ (0xD700, 0xD7FF) ∷ (0xE000, 0xE0FF) ∷ []
unfolding scalar_ranges
beside_surrogates = refl

-- where these trees are on the stack
abbrev on_stack : List Tree → QueryValue
on_stack trees = record { setup = at_first.setup; stack = trees; patterns = [] }

abbrev line : List ℕ → QueryValue → Option FaultKind
line text at = fault (words text) at

unknown : line (codes "star") at_first ≡ Some UnknownWord
unknown = refl

capital : line (codes "Empty") at_first ≡ Some UnknownWord
capital = refl

setting_after_pattern :
    line (codes "utf8 off") (record { setup = at_first.setup; stack = []; patterns = empty ∷ [] }) ≡ Some SettingAfterNode
setting_after_pattern = refl

-- before the count of its words, and before its words
setting_after_node : line (codes "span 1") (on_stack (empty ∷ [])) ≡ Some SettingAfterNode
setting_after_node = refl

setting_before_node : line (codes "anchored yes") at_first ≡ None
setting_before_node = refl

no_choice : line (codes "utf8 yes") at_first ≡ Some BadChoice
no_choice = refl

no_end : line (codes "span 1 x") at_first ≡ Some BadNumber
no_end = refl

stray_space : line (codes "empty ") at_first ≡ Some WrongWordCount
stray_space = refl

no_item : line (codes "bytes") at_first ≡ Some WrongWordCount
no_item = refl

-- the first faulty word from the left
bad_min_first : line (codes "rep x y z") at_first ≡ Some BadNumber
bad_min_first = refl

bad_choice : line (codes "rep 2 1 eager") at_first ≡ Some BadChoice
bad_choice = refl

above : line (codes "rep 2 1 lazy") at_first ≡ Some MinAboveMax
above = refl

bad_hex : line (codes "lit 4g") at_first ≡ Some BadHex
unfolding hex_on_literals
bad_hex = refl

range_turned_round : line (codes "bytes 30-39 39-30 xx") at_first ≡ Some BadRange
unfolding hex_on_literals
range_turned_round = refl

too_few : line (codes "cat 2") (on_stack (empty ∷ [])) ≡ Some TooFewTrees
too_few = refl

none_needed : line (codes "cat 0") at_first ≡ None
none_needed = refl

-- a tree that is so many repetitions high
abbrev tower : ℕ → Tree
tower zero = empty
tower (suc n) = repetition 1 (Some 1) true (tower n)

too_deep : line (codes "rep 1 1 greedy") (on_stack (tower 249 ∷ [])) ≡ Some TooDeep
too_deep = refl

deep_enough : line (codes "rep 1 1 greedy") (on_stack (tower 248 ∷ [])) ≡ None
deep_enough = refl

two_trees : line (codes "pattern") (on_stack (empty ∷ empty ∷ [])) ≡ Some NotOneTree
two_trees = refl

left_over : line (codes "find") (on_stack (empty ∷ [])) ≡ Some TreeLeftOver
left_over = refl

nothing_left : line (codes "find") at_first ≡ None
nothing_left = refl

-- settings of searches
abbrev set_by : LineWord → List (List ℕ) → Settings
set_by word args = (setup_after word args at_first.setup).settings

two_bytes : line (codes "line 0A 00") at_first ≡ None
unfolding hex_on_literals
two_bytes = refl

ends_at_either : (set_by Line (codes "0A" ∷ codes "00" ∷ [])).line_terminator ≡ two_of 10 0
unfolding hex_on_literals
ends_at_either = refl

ends_at_one : (set_by Line (codes "3b" ∷ [])).line_terminator ≡ one_of 59
unfolding hex_on_literals
ends_at_one = refl

three_bytes : line (codes "line 61 0A 00") at_first ≡ Some WrongWordCount
three_bytes = refl

bad_second_byte : line (codes "line 0A 0g") at_first ≡ Some BadHex
unfolding hex_on_literals
bad_second_byte = refl

no_capacity : line (codes "capacity 0") at_first ≡ None
no_capacity = refl

capacity_is_zero : capacity_of (set_by Capacity (codes "0" ∷ [])).dfa ≡ 0
capacity_is_zero = refl

quit : line (codes "quit CE") at_first ≡ None
unfolding hex_on_literals
quit = refl

quit_set : has (by_hand (set_by Quit (codes "CE" ∷ [])).dfa) 206 ≡ true
unfolding hex_on_literals no_quits
quit_set = refl

quit_of_two_bytes : line (codes "quit CEB1") at_first ≡ Some BadHex
unfolding hex_on_literals
quit_of_two_bytes = refl

quit_after_node : line (codes "quit CE") (on_stack (empty ∷ [])) ≡ Some SettingAfterNode
quit_after_node = refl

no_classes_choice : line (codes "classes maybe") at_first ≡ Some BadChoice
no_classes_choice = refl

classes_are_off : classes_on (set_by Classes (codes "off" ∷ [])).dfa ≡ false
classes_are_off = refl

shrinks : (set_by Shrink (codes "on" ∷ [])).shrink ≡ true
shrinks = refl

-- looks and characters
look_at_end : line (codes "look EndCRLF") at_first ≡ None
look_at_end = refl

look_of_name : new_tree Look (codes "EndCRLF" ∷ []) [] ≡ look EndCRLF
look_of_name = refl

unknown_look : line (codes "look EndCr") at_first ≡ Some UnknownLook
unknown_look = refl

around_surrogates : line (codes "chars D7FF-E000") at_first ≡ None
around_surrogates = refl

surrogates : line (codes "chars D800-D900") at_first ≡ Some BadRange
surrogates = refl

-- an end without digits is reported before one that is no scalar
surrogate_and_no_digits : line (codes "chars D800-zz") at_first ≡ Some BadHex
surrogate_and_no_digits = refl

above_all_scalars : line (codes "chars 61-110000") at_first ≡ Some BadRange
above_all_scalars = refl
