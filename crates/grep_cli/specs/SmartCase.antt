-- Smart case: letters match in either case if the patterns have literal characters, and none of them is a capital letter. What counts is the
-- pattern as it is written. Classes such as \S or \pL, names and flags of groups, and numbers of repetitions aren't literals. The ends of
-- ranges in classes are.
use Rattle.std.specs.Prelude.{ℕ, ◌+◌, ◌-◌, ◌*◌, ◌^◌, min, ◌==◌, Bool, true, false, ◌&&◌, ◌||◌, not, nat_lt, nat_le, List, [], ◌∷◌, chars, codes, if◌then◌else◌}
use Rattle.std.specs.List.{list_any}
use Rattle.std.specs.Char.{digit_value}
use Rattle.std.specs.Char.Unicode.Uppercase.{is_uppercase}
use Rattle.grep_cli.specs.declared.options.smart_case.Mode.{Mode}
use Rattle.grep_cli.specs.declared.options.smart_case.Mode.TheVariants.{Item, Escape, Property, Digits, Braced, Group, Flags, Class, Negated, Nested, Until}
use Rattle.grep_cli.specs.declared.options.smart_case.Scan.{Scan}

-- What was read of no pattern.
abbrev pub no_scan : Scan
no_scan = record { mode = Item; depth = 0; value = 0; literal = false; capital = false }

-- The next pattern begins. What was found in those before it counts.
abbrev pub next_pattern : Scan → Scan
next_pattern s = record s { mode = Item; depth = 0 }

abbrev pub in_mode : Scan → Mode → Scan
in_mode s mode = record s { mode = mode }

abbrev pub after_literal : Scan → ℕ → Scan
after_literal s c = record s { mode = Item; literal = true; capital = s.capital || is_uppercase c }

-- A bracket begins a class, or ends one.
abbrev pub deeper : Scan → Scan
deeper s = record s { mode = Class; depth = min (s.depth + 1) (2 ^ 64 - 1) }

abbrev pub closing : Scan → Scan
closing s = record s { mode = Item; depth = s.depth - 1 }

abbrev pub is_operator : ℕ → Bool
is_operator c = list_any (λ d. c == d) (codes ".^$|)*+?")

-- Outside of classes: braces have numbers of repetitions.
abbrev pub after_plain : Scan → ℕ → Scan
after_plain s c =
    if c == 92 then in_mode s Escape
    else if c == 91 then deeper s
    else if c == 40 then in_mode s Group
    else if c == 123 then in_mode s (Until 125)
    else if is_operator c then in_mode s Item
    else after_literal s c

-- What separates the ends of a range, and what operators are made of.
abbrev pub is_separator : ℕ → Bool
is_separator c = list_any (λ d. c == d) (codes "-&~")

abbrev pub after_class_char : Scan → ℕ → Scan
after_class_char s c =
    if c == 92 then in_mode s Escape
    else if c == 91 then in_mode s Nested
    else if c == 93 then closing s
    else if is_separator c then in_mode s Item
    else after_literal s c

abbrev pub after_item : Scan → ℕ → Scan
after_item s c = if s.depth == 0 then after_plain s c else after_class_char s c

-- ---- after a backslash

abbrev pub is_class_letter : ℕ → Bool
is_class_letter c = list_any (λ d. c == d) (codes "dDsSwWbBAz")

-- \x41, \u0041, \U00000041
abbrev pub digits_of : ℕ → ℕ
digits_of c = if c == 120 then 2 else if c == 117 then 4 else 8

abbrev pub after_escape : Scan → ℕ → Scan
after_escape s c =
    if c == 112 || c == 80 then in_mode s Property
    else if c == 120 || (c == 117 || c == 85) then record s { mode = Digits (digits_of c); value = 0 }
    else if is_class_letter c then in_mode s Item
    else after_literal s c

abbrev pub after_property : Scan → ℕ → Scan
after_property s c = if c == 123 then in_mode s (Until 125) else in_mode s Item

-- The character with the number that was read, if there is one.
abbrev pub is_character : ℕ → Bool
is_character n = nat_lt n 55296 || nat_lt 57343 n && nat_lt n 1114112

abbrev pub after_value : Scan → Scan
after_value s = if is_character s.value then after_literal s s.value else in_mode s Item

abbrev pub after_hex_digit : Scan → ℕ → Scan
after_hex_digit s c =
    if nat_lt (digit_value c) 16 then record s { value = if nat_lt s.value 1114112 then s.value * 16 + digit_value c else s.value }
    else s

abbrev pub after_digit : Scan → ℕ → ℕ → Scan
after_digit s left c =
    if c == 123 then in_mode s Braced
    else if nat_le left 1 then after_value (after_hex_digit s c)
    else in_mode (after_hex_digit s c) (Digits (left - 1))

abbrev pub after_braced : Scan → ℕ → Scan
after_braced s c = if c == 125 then after_value s else after_hex_digit s c

-- ---- groups

abbrev pub after_group : Scan → ℕ → Scan
after_group s c = if c == 63 then in_mode s Flags else after_item s c

abbrev pub after_flag : Scan → ℕ → Scan
after_flag s c =
    if c == 58 || c == 41 then in_mode s Item
    else if c == 60 then in_mode s (Until 62)
    else s

-- ---- classes

-- A closing bracket that is first in a class is a literal.
abbrev pub after_begin : Scan → ℕ → Scan
after_begin s c = if c == 93 then after_literal s c else after_class_char s c

abbrev pub after_class : Scan → ℕ → Scan
after_class s c = if c == 94 then in_mode s Negated else after_begin s c

-- [:alpha:] in a class, or another class
abbrev pub after_nested : Scan → ℕ → Scan
after_nested s c = if c == 58 then in_mode s (Until 93) else after_class (deeper s) c

abbrev pub after_until : Scan → ℕ → ℕ → Scan
after_until s end c = if c == end then in_mode s Item else s

-- ---- whole patterns

abbrev pub next_by : Mode → Scan → ℕ → Scan
next_by Item s c = after_item s c
next_by Escape s c = after_escape s c
next_by Property s c = after_property s c
next_by (Digits left) s c = after_digit s left c
next_by Braced s c = after_braced s c
next_by Group s c = after_group s c
next_by Flags s c = after_flag s c
next_by Class s c = after_class s c
next_by Negated s c = after_begin s c
next_by Nested s c = after_nested s c
next_by (Until end) s c = after_until s end c

abbrev pub after_char : Scan → ℕ → Scan
after_char s c = next_by s.mode s c

abbrev pub scan_chars : Scan → List ℕ → Scan
scan_chars s [] = s
scan_chars s (c ∷ cs) = scan_chars (after_char s c) cs

abbrev pub scan_texts : Scan → List (List ℕ) → Scan
scan_texts s [] = s
scan_texts s (text ∷ texts) = scan_texts (scan_chars (next_pattern s) (chars text)) texts

abbrev pub ignores_case : List (List ℕ) → Bool
ignores_case texts = (scan_texts no_scan texts).literal && not (scan_texts no_scan texts).capital
