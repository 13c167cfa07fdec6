-- Readers that compute what Words.antt says of a word: None if the word says no such thing. Each has a counterpart,
-- `the_..`, that returns any value in that case. By a law, each reads exactly what its relation says (`word_laws`).
use Rattle.std.specs.Prelude.{◌≡◌, ◌↔◌, ℕ, ◌+◌, ◌^◌, ◌==◌, ◌&&◌, ◌||◌, not, Bool, true, false, List, [], ◌∷◌, length, take, drop}
use Rattle.std.specs.Prelude.{slice_index, slice_index_or, Option, Some, None, Result, Ok, Err, nat_lt, codes, if◌then◌else◌, option_map}
use Rattle.std.specs.Prelude.{unwrap_or}
use Rattle.std.specs.List.{list_all, position}
use Rattle.std.specs.Option.{option_or}
use Rattle.std.specs.Str.{all_ascii_digits, bytes_eq}
use Rattle.std.specs.Str.Parse.{digits_value}
use Rattle.hex.specs.Hex.{decode_of, is_hex_digit}
use Rattle.look_core.specs.declared.look.Look.{Look as TheLook}
use Rattle.look_core.specs.declared.look.Look.TheVariants as the_look
use Rattle.hex.specs.declared.error.FromHexError.{FromHexError}
use Rattle.hirscan.specs.declared.words.LineWord.{LineWord}
use Rattle.hirscan.specs.declared.words.LineWord.TheVariants.{Utf8, Line, Capacity, Quit, Classes, Shrink, Anchored, Span, Empty, Lit}
use Rattle.hirscan.specs.declared.words.LineWord.TheVariants.{Bytes, Chars, Look, Rep, Cat, Alt, Pattern, Find}

-- the reader returns x exactly if the relation holds of the word and x, and None exactly if it holds of no x
pub record IsReader {X : Type 0} (read : List ℕ → Option X) (says : List ℕ → X → Type 0) : Type 0 where
  pub some : (w : List ℕ) (x : X) → (read w ≡ Some x) ↔ says w x
  pub none : (w : List ℕ) → (read w ≡ None) ↔ ((x : X) → says w x → ⊥)

-- the word that begins such a line
abbrev pub spelling : LineWord → List ℕ
spelling Utf8 = codes "utf8"
spelling Line = codes "line"
spelling Capacity = codes "capacity"
spelling Quit = codes "quit"
spelling Classes = codes "classes"
spelling Shrink = codes "shrink"
spelling Anchored = codes "anchored"
spelling Span = codes "span"
spelling Empty = codes "empty"
spelling Lit = codes "lit"
spelling Bytes = codes "bytes"
spelling Chars = codes "chars"
spelling Look = codes "look"
spelling Rep = codes "rep"
spelling Cat = codes "cat"
spelling Alt = codes "alt"
spelling Pattern = codes "pattern"
spelling Find = codes "find"

-- the word begins lines of this kind
abbrev pub IsSpelled : List ℕ → LineWord → Type 0
IsSpelled w k = w ≡ spelling k

-- which line that sets something begins with the word
abbrev pub setting_word : List ℕ → Option LineWord
setting_word w =
    if bytes_eq w (codes "utf8") then Some Utf8
    else if bytes_eq w (codes "line") then Some Line
    else if bytes_eq w (codes "capacity") then Some Capacity
    else if bytes_eq w (codes "quit") then Some Quit
    else if bytes_eq w (codes "classes") then Some Classes
    else if bytes_eq w (codes "shrink") then Some Shrink
    else if bytes_eq w (codes "anchored") then Some Anchored
    else if bytes_eq w (codes "span") then Some Span
    else None

-- which other line begins with it
abbrev pub tree_word : List ℕ → Option LineWord
tree_word w =
    if bytes_eq w (codes "empty") then Some Empty
    else if bytes_eq w (codes "lit") then Some Lit
    else if bytes_eq w (codes "bytes") then Some Bytes
    else if bytes_eq w (codes "chars") then Some Chars
    else if bytes_eq w (codes "look") then Some Look
    else if bytes_eq w (codes "rep") then Some Rep
    else if bytes_eq w (codes "cat") then Some Cat
    else if bytes_eq w (codes "alt") then Some Alt
    else if bytes_eq w (codes "pattern") then Some Pattern
    else if bytes_eq w (codes "find") then Some Find
    else None

-- which line begins with the word
abbrev pub line_word : List ℕ → Option LineWord
line_word w = option_or (setting_word w) (tree_word w)

-- whether the word is a number: digits, one or more, without a leading zero, of a value below 2 ^ 32
abbrev pub is_number : List ℕ → Bool
is_number w =
    all_ascii_digits w && nat_lt 0 (length w) && (not (slice_index w 0 == 48) || length w == 1) && nat_lt (digits_value 10 w) (2 ^ 32)

abbrev pub number : List ℕ → Option ℕ
number w = if is_number w then Some (digits_value 10 w) else None

abbrev pub the_number : List ℕ → ℕ
the_number w = unwrap_or (number w) 0

-- a bound on rounds, which `inf` leaves open
abbrev pub bound : List ℕ → Option (Option ℕ)
bound w = if bytes_eq w (codes "inf") then Some None else option_map Some (number w)

abbrev pub the_bound : List ℕ → Option ℕ
the_bound w = unwrap_or (bound w) None

-- whether more rounds are preferred
abbrev pub order : List ℕ → Option Bool
order w = if bytes_eq w (codes "greedy") then Some true else if bytes_eq w (codes "lazy") then Some false else None

abbrev pub the_order : List ℕ → Bool
the_order w = unwrap_or (order w) false

-- whether a setting is switched on
abbrev pub switch : List ℕ → Option Bool
switch w = if bytes_eq w (codes "on") then Some true else if bytes_eq w (codes "off") then Some false else None

abbrev pub the_switch : List ℕ → Bool
the_switch w = unwrap_or (switch w) false

-- whether the word says yes
abbrev pub yes_or_no : List ℕ → Option Bool
yes_or_no w = if bytes_eq w (codes "yes") then Some true else if bytes_eq w (codes "no") then Some false else None

abbrev pub the_yes_or_no : List ℕ → Bool
the_yes_or_no w = unwrap_or (yes_or_no w) false

-- the bytes, if there is one or more
abbrev pub one_or_more : Result (List ℕ) FromHexError → Option (List ℕ)
one_or_more (Ok []) = None
one_or_more (Ok (b ∷ bs)) = Some (b ∷ bs)
one_or_more (Err e) = None

abbrev pub hex_bytes : List ℕ → Option (List ℕ)
hex_bytes w = one_or_more (decode_of w)

abbrev pub the_bytes : List ℕ → List ℕ
the_bytes w = unwrap_or (hex_bytes w) []

-- the byte, if there is just one
abbrev pub only_one : Result (List ℕ) FromHexError → Option ℕ
only_one (Ok []) = None
only_one (Ok (b ∷ [])) = Some b
only_one (Ok (b ∷ c ∷ bs)) = None
only_one (Err e) = None

abbrev pub hex_byte : List ℕ → Option ℕ
hex_byte w = only_one (decode_of w)

abbrev pub the_byte : List ℕ → ℕ
the_byte w = unwrap_or (hex_byte w) 0

-- two values, if both are there
abbrev pub both : Option ℕ → Option ℕ → Option (ℕ × ℕ)
both None b = None
both (Some a) None = None
both (Some a) (Some b) = Some (a, b)

-- the ends of an item of a class, in whichever order: two digits, a sign, and two digits
abbrev pub item_ends : List ℕ → Option (ℕ × ℕ)
item_ends w = if length w == 5 && slice_index w 2 == 45 then both (hex_byte (take 2 w)) (hex_byte (drop 3 w)) else None

abbrev pub the_ends : List ℕ → ℕ × ℕ
the_ends w = unwrap_or (item_ends w) (0, 0)

-- whether the word is a number of one to six hexadecimal digits
abbrev pub is_hex_number : List ℕ → Bool
is_hex_number w = list_all is_hex_digit w && nat_lt 0 (length w) && nat_lt (length w) 7

abbrev pub hex_number : List ℕ → Option ℕ
hex_number w = if is_hex_number w then Some (digits_value 16 w) else None

-- the numbers before and after the sign at this position, if there is one
abbrev pub hex_ends_at : List ℕ → Option ℕ → Option (ℕ × ℕ)
hex_ends_at w None = None
hex_ends_at w (Some k) = both (hex_number (take k w)) (hex_number (drop (k + 1) w))

-- the ends of an item of a class of scalars, in whichever order: two numbers, separated by a sign
abbrev pub hex_ends : List ℕ → Option (ℕ × ℕ)
hex_ends w = hex_ends_at w (position (λ b. b == 45) w)

abbrev pub the_hex_ends : List ℕ → ℕ × ℕ
the_hex_ends w = unwrap_or (hex_ends w) (0, 0)

-- the look with this name that holds at an edge of the haystack or of a line
abbrev pub anchor_named : List ℕ → Option TheLook
anchor_named w =
    if bytes_eq w (codes "Start") then Some the_look.Start
    else if bytes_eq w (codes "End") then Some the_look.End
    else if bytes_eq w (codes "StartLF") then Some the_look.StartLF
    else if bytes_eq w (codes "EndLF") then Some the_look.EndLF
    else if bytes_eq w (codes "StartCRLF") then Some the_look.StartCRLF
    else if bytes_eq w (codes "EndCRLF") then Some the_look.EndCRLF
    else None

-- the look with this name that holds at an offset where a word begins or ends, or where none does
abbrev pub word_look_named : List ℕ → Option TheLook
word_look_named w =
    if bytes_eq w (codes "WordAscii") then Some the_look.WordAscii
    else if bytes_eq w (codes "WordAsciiNegate") then Some the_look.WordAsciiNegate
    else if bytes_eq w (codes "WordUnicode") then Some the_look.WordUnicode
    else if bytes_eq w (codes "WordUnicodeNegate") then Some the_look.WordUnicodeNegate
    else None

-- the look with this name that holds at an offset where a word begins, or where one ends
abbrev pub word_side_named : List ℕ → Option TheLook
word_side_named w =
    if bytes_eq w (codes "WordStartAscii") then Some the_look.WordStartAscii
    else if bytes_eq w (codes "WordEndAscii") then Some the_look.WordEndAscii
    else if bytes_eq w (codes "WordStartUnicode") then Some the_look.WordStartUnicode
    else if bytes_eq w (codes "WordEndUnicode") then Some the_look.WordEndUnicode
    else None

-- the look with this name that holds at an offset that no word character precedes, or that none follows
abbrev pub half_look_named : List ℕ → Option TheLook
half_look_named w =
    if bytes_eq w (codes "WordStartHalfAscii") then Some the_look.WordStartHalfAscii
    else if bytes_eq w (codes "WordEndHalfAscii") then Some the_look.WordEndHalfAscii
    else if bytes_eq w (codes "WordStartHalfUnicode") then Some the_look.WordStartHalfUnicode
    else if bytes_eq w (codes "WordEndHalfUnicode") then Some the_look.WordEndHalfUnicode
    else None

abbrev pub look_named : List ℕ → Option TheLook
look_named w = option_or (option_or (option_or (anchor_named w) (word_look_named w)) (word_side_named w)) (half_look_named w)

abbrev pub the_look_named : List ℕ → TheLook
the_look_named w = unwrap_or (look_named w) the_look.Start

-- the word at this position, counted from 0
abbrev pub word_at : List (List ℕ) → ℕ → List ℕ
word_at ws i = slice_index_or ws i []
