-- The words of a line, and what a word says by itself.
use Rattle.std.specs.Prelude.{◌≡◌, ℕ, zero, suc, ◌+◌, ◌-◌, ◌*◌, ◌/◌, ◌%◌, ◌^◌, ◌<◌, ◌≤◌, ◌==◌, Bool, true, false, List, [], ◌∷◌, ◌++◌}
use Rattle.std.specs.Prelude.{length, drop, slice_index, Option, Some, None, decimal, codes, if◌then◌else◌, nat_lt, nat_le, min, max, ◌&&◌}
use Rattle.std.specs.Prelude.{◌||◌}
use Rattle.std.specs.List.{slice_split}
use Rattle.look_core.specs.declared.look.Look.{Look}
use Rattle.look_core.specs.declared.look.Look.TheVariants.{Start, End, StartLF, EndLF, StartCRLF, EndCRLF, WordAscii, WordAsciiNegate}
use Rattle.look_core.specs.declared.look.Look.TheVariants.{WordUnicode, WordUnicodeNegate, WordStartAscii, WordEndAscii, WordStartUnicode}
use Rattle.look_core.specs.declared.look.Look.TheVariants.{WordEndUnicode, WordStartHalfAscii, WordEndHalfAscii, WordStartHalfUnicode}
use Rattle.look_core.specs.declared.look.Look.TheVariants.{WordEndHalfUnicode}
use Rattle.hir_core.specs.Means.{is_member}

-- what is between the spaces of the line: n spaces separate n + 1 words, some of which may be empty
abbrev pub words : List ℕ → List (List ℕ)
words line = slice_split (λ b. b == 32) line

-- the word is the number n: decimal, without a leading zero, at most 4294967295
abbrev pub IsNumber : List ℕ → ℕ → Type 0
IsNumber w n = (n < 2 ^ 32) × (w ≡ decimal n)

-- the word is a bound on rounds: a number, or `inf` for none
abbrev pub IsBound : List ℕ → Option ℕ → Type 0
IsBound w None = w ≡ codes "inf"
IsBound w (Some n) = IsNumber w n

-- whether the word says that more rounds are preferred
abbrev pub IsGreedy : List ℕ → Bool → Type 0
IsGreedy w true = w ≡ codes "greedy"
IsGreedy w false = w ≡ codes "lazy"

-- whether the word switches a setting on, and whether it says yes
abbrev pub IsSwitch : List ℕ → Bool → Type 0
IsSwitch w true = w ≡ codes "on"
IsSwitch w false = w ≡ codes "off"

abbrev pub IsYes : List ℕ → Bool → Type 0
IsYes w true = w ≡ codes "yes"
IsYes w false = w ≡ codes "no"

-- the character is the hexadecimal digit of this value: 48 is `0`, 97 is `a` and 65 is `A`
pub data IsHexDigit (c value : ℕ) : Type 0 where
  from_zero : value < 10 → c ≡ 48 + value → IsHexDigit c value
  from_small_a : 10 ≤ value → value < 16 → c ≡ 97 + (value - 10) → IsHexDigit c value
  from_great_a : 10 ≤ value → value < 16 → c ≡ 65 + (value - 10) → IsHexDigit c value

-- two characters spell the byte: the digits of its high and its low four bits
pub record SpellsByte (high low byte : ℕ) : Type 0 where
  pub high_is : IsHexDigit high (byte / 16)
  pub low_is : IsHexDigit low (byte % 16)

-- the word spells these bytes, one or more: byte k by the characters 2 k and 2 k + 1
pub record IsHex (w bytes : List ℕ) : Type 0 where
  pub some : 0 < length bytes
  pub two_each : length w ≡ 2 * length bytes
  pub spelled : (k : ℕ) → k < length bytes → SpellsByte (slice_index w (2 * k)) (slice_index w (2 * k + 1)) (slice_index bytes k)

-- the word spells one byte
abbrev pub IsHexByte : List ℕ → ℕ → Type 0
IsHexByte w byte = IsHex w (byte ∷ [])

-- The word has two ends, as `30-39` has, in whichever order. The sign between them is 45.
pub record HasEnds (w : List ℕ) (ends : ℕ × ℕ) : Type 0 where
  pub low : List ℕ
  pub high : List ℕ
  pub parts : w ≡ low ++ 45 ∷ high
  pub low_is : IsHexByte low ends.0
  pub high_is : IsHexByte high ends.1

-- the word is an item of a class: its low end comes first and isn't above its high end
pub record IsItem (w : List ℕ) (range : ℕ × ℕ) : Type 0 where
  pub ends : HasEnds w range
  pub in_order : range.0 ≤ range.1

-- the word is the name of the look
abbrev pub look_name : Look → List ℕ
look_name Start = codes "Start"
look_name End = codes "End"
look_name StartLF = codes "StartLF"
look_name EndLF = codes "EndLF"
look_name StartCRLF = codes "StartCRLF"
look_name EndCRLF = codes "EndCRLF"
look_name WordAscii = codes "WordAscii"
look_name WordAsciiNegate = codes "WordAsciiNegate"
look_name WordUnicode = codes "WordUnicode"
look_name WordUnicodeNegate = codes "WordUnicodeNegate"
look_name WordStartAscii = codes "WordStartAscii"
look_name WordEndAscii = codes "WordEndAscii"
look_name WordStartUnicode = codes "WordStartUnicode"
look_name WordEndUnicode = codes "WordEndUnicode"
look_name WordStartHalfAscii = codes "WordStartHalfAscii"
look_name WordEndHalfAscii = codes "WordEndHalfAscii"
look_name WordStartHalfUnicode = codes "WordStartHalfUnicode"
look_name WordEndHalfUnicode = codes "WordEndHalfUnicode"

abbrev pub IsLookName : List ℕ → Look → Type 0
IsLookName w l = w ≡ look_name l

-- the digits, after others of the value `before`, have this value
abbrev pub HasHexValue : ℕ → List ℕ → ℕ → Type 0
HasHexValue before [] n = n ≡ before
HasHexValue before (c ∷ cs) n = (digit : ℕ) × IsHexDigit c digit × HasHexValue (16 * before + digit) cs n

-- the word is a number of one to six hexadecimal digits
pub record IsHexNumber (w : List ℕ) (n : ℕ) : Type 0 where
  pub some : 0 < length w
  pub six : length w ≤ 6
  pub value : HasHexValue 0 w n

-- the word has two ends, as `3b1-3C9` has, in whichever order
pub record HasHexEnds (w : List ℕ) (ends : ℕ × ℕ) : Type 0 where
  pub low : List ℕ
  pub high : List ℕ
  pub parts : w ≡ low ++ 45 ∷ high
  pub low_is : IsHexNumber low ends.0
  pub high_is : IsHexNumber high ends.1

-- whether the number is a scalar: one of a character, and so no surrogate
abbrev pub is_scalar : ℕ → Bool
is_scalar c = nat_lt c 0xD800 || (nat_le 0xE000 c && nat_le c 0x10FFFF)

-- the word is an item of a class of scalars: both ends are scalars, and the low one comes first and isn't above the
-- high one
pub record IsScalarItem (w : List ℕ) (range : ℕ × ℕ) : Type 0 where
  pub ends : HasHexEnds w range
  pub low_scalar : is_scalar range.0 ≡ true
  pub high_scalar : is_scalar range.1 ≡ true
  pub in_order : range.0 ≤ range.1

-- each word is the item at its position in the list
abbrev pub AreScalarItems : List (List ℕ) → List (ℕ × ℕ) → Type 0
AreScalarItems [] [] = Unit {0}
AreScalarItems [] (r ∷ rs) = ⊥
AreScalarItems (w ∷ ws) [] = ⊥
AreScalarItems (w ∷ ws) (r ∷ rs) = IsScalarItem w r × AreScalarItems ws rs

-- each word is the item at its position in the list
abbrev pub AreItems : List (List ℕ) → List (ℕ × ℕ) → Type 0
AreItems [] [] = Unit {0}
AreItems [] (r ∷ rs) = ⊥
AreItems (w ∷ ws) [] = ⊥
AreItems (w ∷ ws) (r ∷ rs) = IsItem w r × AreItems ws rs

-- the ranges with the byte b before them, which is below each: the first range is extended if it begins just above b
abbrev pub with_byte : ℕ → List (ℕ × ℕ) → List (ℕ × ℕ)
with_byte b [] = (b, b) ∷ []
with_byte b (r ∷ rs) = if r.0 == b + 1 then (b, r.1) ∷ rs else (b, b) ∷ r ∷ rs

-- the ranges with the byte b before them, if it is a member
abbrev pub with_member : Bool → ℕ → List (ℕ × ℕ) → List (ℕ × ℕ)
with_member true b ranges = with_byte b ranges
with_member false b ranges = ranges

-- the ranges of the members among the n bytes from b on, each as long as it can be, ascending
abbrev pub member_ranges : (ℕ → Bool) → ℕ → ℕ → List (ℕ × ℕ)
member_ranges member zero b = []
member_ranges member (suc n) b = with_member (member b) b (member_ranges member n (b + 1))

-- the ranges of a class of these items, which may overlap and come in any order
unfoldable pub class_ranges : List (ℕ × ℕ) → List (ℕ × ℕ)
class_ranges items = member_ranges (is_member items) 256 0

-- the least of these numbers, or 256 if none is below that
abbrev pub least : List ℕ → ℕ
least [] = 256
least (n ∷ ns) = min n (least ns)

-- whether the byte b is in an item, where `lows` has for each byte the least low end of the items that end there
abbrev pub is_covered : List ℕ → ℕ → Bool
is_covered lows b = nat_le (least (drop b lows)) b

-- the bytes that `lows` covers are those in these items
abbrev pub AreLowEnds : List (ℕ × ℕ) → List ℕ → Type 0
AreLowEnds items lows = (b : ℕ) → b < 256 → is_covered lows b ≡ is_member items b

-- The ranges with one more. They are ascending, and some number is between each two of them. The same holds of the
-- result: the new range absorbs the ranges that it meets or touches.
abbrev pub with_range : ℕ × ℕ → List (ℕ × ℕ) → List (ℕ × ℕ)
with_range r [] = r ∷ []
with_range r (s ∷ rest) =
    if nat_lt (r.1 + 1) s.0 then r ∷ s ∷ rest
    else if nat_lt (s.1 + 1) r.0 then s ∷ with_range r rest
    else with_range (min r.0 s.0, max r.1 s.1) rest

-- the ranges of a class of these items of scalars, which may overlap and come in any order
unfoldable pub scalar_ranges : List (ℕ × ℕ) → List (ℕ × ℕ)
scalar_ranges [] = []
scalar_ranges (r ∷ items) = with_range r (scalar_ranges items)
