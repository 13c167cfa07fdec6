-- What is wrong with a line: the kinds of faults in their order, each with its test.
use Rattle.std.specs.Prelude.{ℕ, ◌-◌, ◌==◌, not, ◌&&◌, ◌||◌, Bool, true, false, List, [], ◌∷◌, ◌++◌, length, map, take, drop}
use Rattle.std.specs.Prelude.{slice_index_or, Option, Some, None, nat_lt, nat_le, if◌then◌else◌}
use Rattle.look_core.specs.Terminators.{Terminator, one_of, two_of}
use Rattle.hir_core.specs.Tree.{Tree, empty, literal, byte_class, char_class, look, repetition, concat, alternation}
use Rattle.hir_core.specs.Facts.{height}
use Rattle.hirscan.specs.declared.fault.FaultKind.{FaultKind}
use Rattle.hirscan.specs.declared.fault.FaultKind.TheVariants.{UnknownWord, SettingAfterNode, WrongWordCount, BadNumber, BadHex, BadRange}
use Rattle.hirscan.specs.declared.fault.FaultKind.TheVariants.{UnknownLook, BadChoice, MinAboveMax, TooFewTrees, TooDeep, NotOneTree}
use Rattle.hirscan.specs.declared.fault.FaultKind.TheVariants.{TreeLeftOver}
use Rattle.hirscan.specs.declared.line.Setup.{Setup}
use Rattle.hirscan.specs.declared.words.LineWord.{LineWord}
use Rattle.hirscan.specs.declared.words.LineWord.TheVariants.{Utf8, Line, Capacity, Quit, Classes, Shrink, Anchored, Span, Empty, Lit}
use Rattle.hirscan.specs.declared.words.LineWord.TheVariants.{Bytes, Chars, Look, Rep, Cat, Alt, Pattern, Find}
use Rattle.hirscan.specs.Words.{is_scalar, class_ranges, scalar_ranges}
use Rattle.hirscan.specs.Takes.{QueryValue, with_utf8, with_terminator, with_capacity, with_quit, with_classes, with_shrink}
use Rattle.hirscan.specs.Takes.{with_query_anchored}
use Rattle.hirscan.specs.Takes.{with_query_span}
use Rattle.hirscan.specs.Readers.{line_word, number, the_number, bound, the_bound, order, the_order, switch, the_switch, yes_or_no}
use Rattle.hirscan.specs.Readers.{the_yes_or_no, hex_bytes, the_bytes, hex_byte, the_byte, item_ends, the_ends, hex_ends, the_hex_ends}
use Rattle.hirscan.specs.Readers.{look_named, the_look_named, word_at}

-- the first fault of the list
abbrev pub first_fault_of : List (Option FaultKind) → Option FaultKind
first_fault_of [] = None
first_fault_of (None ∷ faults) = first_fault_of faults
first_fault_of (Some kind ∷ faults) = Some kind

-- this kind, if the test says so
abbrev pub when : Bool → FaultKind → Option FaultKind
when true kind = Some kind
when false kind = None

-- this kind, if nothing was read
abbrev pub unless_read : {A : Type 0} → Option A → FaultKind → Option FaultKind
unless_read None kind = Some kind
unless_read (Some x) kind = None

-- whether the line sets something
abbrev pub is_setting : LineWord → Bool
is_setting Utf8 = true
is_setting Line = true
is_setting Capacity = true
is_setting Quit = true
is_setting Classes = true
is_setting Shrink = true
is_setting Anchored = true
is_setting Span = true
is_setting _ = false

-- whether the line is a class, whose items may be any number
abbrev pub is_class : LineWord → Bool
is_class Bytes = true
is_class Chars = true
is_class _ = false

-- whether the line sets something after a tree has been pushed
abbrev pub is_setting_after_node : LineWord → QueryValue → Bool
is_setting_after_node k at = is_setting k && (nat_lt 0 (length at.stack) || nat_lt 0 (length at.patterns))

-- whether this many words may follow the first
abbrev pub is_word_count : LineWord → ℕ → Bool
is_word_count Utf8 n = n == 1
is_word_count Line n = nat_le 1 n && nat_le n 2
is_word_count Capacity n = n == 1
is_word_count Quit n = n == 1
is_word_count Classes n = n == 1
is_word_count Shrink n = n == 1
is_word_count Anchored n = n == 1
is_word_count Span n = n == 2
is_word_count Empty n = n == 0
is_word_count Lit n = n == 1
is_word_count Bytes n = nat_le 1 n
is_word_count Chars n = nat_le 1 n
is_word_count Look n = n == 1
is_word_count Rep n = n == 3
is_word_count Cat n = n == 1
is_word_count Alt n = n == 1
is_word_count Pattern n = n == 0
is_word_count Find n = n == 0

-- what is wrong with an item of these ends
abbrev pub ends_fault : Option (ℕ × ℕ) → Option FaultKind
ends_fault None = Some BadHex
ends_fault (Some ends) = when (nat_lt ends.1 ends.0) BadRange

abbrev pub item_fault : List ℕ → Option FaultKind
item_fault w = ends_fault (item_ends w)

-- what is wrong with an item of a class of scalars that has these ends
abbrev pub scalar_ends_fault : Option (ℕ × ℕ) → Option FaultKind
scalar_ends_fault None = Some BadHex
scalar_ends_fault (Some ends) = when (not (is_scalar ends.0) || not (is_scalar ends.1) || nat_lt ends.1 ends.0) BadRange

abbrev pub scalar_item_fault : List ℕ → Option FaultKind
scalar_item_fault w = scalar_ends_fault (hex_ends w)

-- what is wrong with a word that has to be a byte
abbrev pub byte_fault : List ℕ → Option FaultKind
byte_fault w = unless_read (hex_byte w) BadHex

-- what is wrong with the first faulty word after the line's first
abbrev pub word_fault : LineWord → List (List ℕ) → Option FaultKind
word_fault Utf8 args = unless_read (switch (word_at args 0)) BadChoice
word_fault Line args = first_fault_of (map byte_fault args)
word_fault Capacity args = unless_read (number (word_at args 0)) BadNumber
word_fault Quit args = byte_fault (word_at args 0)
word_fault Classes args = unless_read (switch (word_at args 0)) BadChoice
word_fault Shrink args = unless_read (switch (word_at args 0)) BadChoice
word_fault Anchored args = unless_read (yes_or_no (word_at args 0)) BadChoice
word_fault Span args = first_fault_of (unless_read (number (word_at args 0)) BadNumber
    ∷ unless_read (number (word_at args 1)) BadNumber
    ∷ [])
word_fault Lit args = unless_read (hex_bytes (word_at args 0)) BadHex
word_fault Bytes args = first_fault_of (map item_fault args)
word_fault Chars args = first_fault_of (map scalar_item_fault args)
word_fault Look args = unless_read (look_named (word_at args 0)) UnknownLook
word_fault Rep args = first_fault_of (unless_read (number (word_at args 0)) BadNumber
    ∷ unless_read (bound (word_at args 1)) BadNumber
    ∷ unless_read (order (word_at args 2)) BadChoice
    ∷ [])
word_fault Cat args = unless_read (number (word_at args 0)) BadNumber
word_fault Alt args = unless_read (number (word_at args 0)) BadNumber
word_fault _ args = None

abbrev pub is_at_most : ℕ → Option ℕ → Bool
is_at_most n None = true
is_at_most n (Some most) = nat_le n most

-- whether a repetition's least number of rounds is above its greatest
abbrev pub is_min_above_max : LineWord → List (List ℕ) → Bool
is_min_above_max Rep args = not (is_at_most (the_number (word_at args 0)) (the_bound (word_at args 1)))
is_min_above_max _ args = false

-- how many trees the line combines into one
abbrev pub needed : LineWord → List (List ℕ) → ℕ
needed Rep args = 1
needed Cat args = the_number (word_at args 0)
needed Alt args = the_number (word_at args 0)
needed _ args = 0

-- the top n trees of a stack, and those below them
abbrev pub top : ℕ → List Tree → List Tree
top n stack = drop (length stack - n) stack

abbrev pub below : ℕ → List Tree → List Tree
below n stack = take (length stack - n) stack

-- the tree that the line makes of these trees, for a line that makes one
abbrev pub new_tree : LineWord → List (List ℕ) → List Tree → Tree
new_tree Lit args parts = literal (the_bytes (word_at args 0))
new_tree Bytes args parts = byte_class (class_ranges (map the_ends args))
new_tree Chars args parts = char_class (scalar_ranges (map the_hex_ends args))
new_tree Look args parts = look (the_look_named (word_at args 0))
new_tree Rep args parts =
    repetition (the_number (word_at args 0)) (the_bound (word_at args 1)) (the_order (word_at args 2)) (slice_index_or parts 0 empty)
new_tree Cat args parts = concat parts
new_tree Alt args parts = alternation parts
new_tree _ args parts = empty

abbrev pub has_too_few_trees : LineWord → List (List ℕ) → QueryValue → Bool
has_too_few_trees k args at = nat_lt (length at.stack) (needed k args)

-- whether the line's new tree would be higher than 250
abbrev pub is_too_deep : LineWord → List (List ℕ) → QueryValue → Bool
is_too_deep k args at = nat_lt 250 (height (new_tree k args (top (needed k args) at.stack)))

abbrev pub has_not_one_tree : LineWord → QueryValue → Bool
has_not_one_tree Pattern at = not (length at.stack == 1)
has_not_one_tree _ at = false

abbrev pub has_tree_left_over : LineWord → QueryValue → Bool
has_tree_left_over Find at = nat_lt 0 (length at.stack)
has_tree_left_over _ at = false

-- what may be wrong with a line of this first word that is allowed there and has as many words as it may: the kinds in
-- order
abbrev pub later_faults : LineWord → List (List ℕ) → QueryValue → List (Option FaultKind)
later_faults k args at = word_fault k args
    ∷ when (is_min_above_max k args) MinAboveMax
    ∷ when (has_too_few_trees k args at) TooFewTrees
    ∷ when (is_too_deep k args at) TooDeep
    ∷ when (has_not_one_tree k at) NotOneTree
    ∷ when (has_tree_left_over k at) TreeLeftOver
    ∷ []

-- the first of these that applies
abbrev pub left_fault : LineWord → List (List ℕ) → QueryValue → Option FaultKind
left_fault k args at = first_fault_of (later_faults k args at)

-- what is wrong with a line of this first word and these words after it: the first kind that applies
abbrev pub known_fault : LineWord → List (List ℕ) → QueryValue → Option FaultKind
known_fault k args at = first_fault_of (when (is_setting_after_node k at) SettingAfterNode
    ∷ when (not (is_word_count k (length args))) WrongWordCount
    ∷ later_faults k args at)

-- what is wrong with a line of these words, if its first word may begin no line
abbrev pub fault_by_word : Option LineWord → List (List ℕ) → QueryValue → Option FaultKind
fault_by_word None args at = Some UnknownWord
fault_by_word (Some k) args at = known_fault k args at

-- what is wrong with the line of these words; None if it is accepted, or if it ends the query
abbrev pub fault : List (List ℕ) → QueryValue → Option FaultKind
fault [] at = Some UnknownWord
fault (w ∷ args) at = fault_by_word (line_word w) args at

-- the terminator of these words
abbrev pub the_terminator : List (List ℕ) → Terminator
the_terminator args = if length args == 1 then one_of (the_byte (word_at args 0))
    else two_of (the_byte (word_at args 0)) (the_byte (word_at args 1))

-- the setup of the search after a line of this first word that has no fault
abbrev pub setup_after : LineWord → List (List ℕ) → Setup → Setup
setup_after Utf8 args was = with_utf8 (the_switch (word_at args 0)) was
setup_after Line args was = with_terminator (the_terminator args) was
setup_after Capacity args was = with_capacity (the_number (word_at args 0)) was
setup_after Quit args was = with_quit (the_byte (word_at args 0)) was
setup_after Classes args was = with_classes (the_switch (word_at args 0)) was
setup_after Shrink args was = with_shrink (the_switch (word_at args 0)) was
setup_after Anchored args was = with_query_anchored (the_yes_or_no (word_at args 0)) was
setup_after Span args was = with_query_span (record { start = the_number (word_at args 0); end = the_number (word_at args 1) }) was
setup_after _ args was = was

-- the state after a line that sets something
abbrev pub after_setting : LineWord → List (List ℕ) → QueryValue → QueryValue
after_setting k args at = record { setup = setup_after k args at.setup; stack = at.stack; patterns = at.patterns }

-- the state after a line that makes a tree of the top ones
abbrev pub after_tree : LineWord → List (List ℕ) → QueryValue → QueryValue
after_tree k args at = record {
  setup = at.setup;
  stack = below (needed k args) at.stack ++ new_tree k args (top (needed k args) at.stack) ∷ [];
  patterns = at.patterns;
}

-- the state after a line of this first word that has no fault
abbrev pub after_line : LineWord → List (List ℕ) → QueryValue → QueryValue
after_line Utf8 args at = after_setting Utf8 args at
after_line Line args at = after_setting Line args at
after_line Capacity args at = after_setting Capacity args at
after_line Quit args at = after_setting Quit args at
after_line Classes args at = after_setting Classes args at
after_line Shrink args at = after_setting Shrink args at
after_line Anchored args at = after_setting Anchored args at
after_line Span args at = after_setting Span args at
after_line Pattern args at = record { setup = at.setup; stack = []; patterns = at.patterns ++ at.stack }
after_line Find args at = at
after_line k args at = after_tree k args at
