-- The rows of the table at both ends, and the bytes next to them, which spell nothing.
use Rattle.std.proofs.Common.{◌≡◌, ℕ, true, false, [], ◌∷◌, Some, None, refl, arith}
use Rattle.search_core.specs.Text.{byte_at, byte_before}
use Rattle.search_core.specs.Utf8.{Spells, is_boundary, is_word_byte}
use Rattle.search_core.specs.Utf8.Spells.{from_0000, from_0080, from_0800, from_1000, from_d000, from_e000, from_10000, from_40000}
use Rattle.search_core.specs.Utf8.Spells.{from_100000}

first_0000 : Spells 0x0 (0x00 ∷ [])
first_0000 = from_0000 0x00 (omega arith, omega arith) refl refl

last_0000 : Spells 0x7F (0x7F ∷ [])
last_0000 = from_0000 0x7F (omega arith, omega arith) refl refl

first_0080 : Spells 0x80 (0xC2 ∷ 0x80 ∷ [])
first_0080 = from_0080 0xC2 0x80 (omega arith, omega arith) (omega arith, omega arith) refl refl

last_0080 : Spells 0x7FF (0xDF ∷ 0xBF ∷ [])
last_0080 = from_0080 0xDF 0xBF (omega arith, omega arith) (omega arith, omega arith) refl refl

first_0800 : Spells 0x800 (0xE0 ∷ 0xA0 ∷ 0x80 ∷ [])
first_0800 = from_0800 0xE0 0xA0 0x80 refl (omega arith, omega arith) (omega arith, omega arith) refl refl

last_0800 : Spells 0xFFF (0xE0 ∷ 0xBF ∷ 0xBF ∷ [])
last_0800 = from_0800 0xE0 0xBF 0xBF refl (omega arith, omega arith) (omega arith, omega arith) refl refl

first_1000 : Spells 0x1000 (0xE1 ∷ 0x80 ∷ 0x80 ∷ [])
first_1000 = from_1000 0xE1 0x80 0x80 (omega arith, omega arith) (omega arith, omega arith) (omega arith, omega arith) refl refl

last_1000 : Spells 0xCFFF (0xEC ∷ 0xBF ∷ 0xBF ∷ [])
last_1000 = from_1000 0xEC 0xBF 0xBF (omega arith, omega arith) (omega arith, omega arith) (omega arith, omega arith) refl refl

first_d000 : Spells 0xD000 (0xED ∷ 0x80 ∷ 0x80 ∷ [])
first_d000 = from_d000 0xED 0x80 0x80 refl (omega arith, omega arith) (omega arith, omega arith) refl refl

last_d000 : Spells 0xD7FF (0xED ∷ 0x9F ∷ 0xBF ∷ [])
last_d000 = from_d000 0xED 0x9F 0xBF refl (omega arith, omega arith) (omega arith, omega arith) refl refl

first_e000 : Spells 0xE000 (0xEE ∷ 0x80 ∷ 0x80 ∷ [])
first_e000 = from_e000 0xEE 0x80 0x80 (omega arith, omega arith) (omega arith, omega arith) (omega arith, omega arith) refl refl

last_e000 : Spells 0xFFFF (0xEF ∷ 0xBF ∷ 0xBF ∷ [])
last_e000 = from_e000 0xEF 0xBF 0xBF (omega arith, omega arith) (omega arith, omega arith) (omega arith, omega arith) refl refl

first_10000 : Spells 0x10000 (0xF0 ∷ 0x90 ∷ 0x80 ∷ 0x80 ∷ [])
first_10000 = from_10000 0xF0 0x90 0x80 0x80 refl (omega arith, omega arith) (omega arith, omega arith) (omega arith, omega arith) refl refl

last_10000 : Spells 0x3FFFF (0xF0 ∷ 0xBF ∷ 0xBF ∷ 0xBF ∷ [])
last_10000 = from_10000 0xF0 0xBF 0xBF 0xBF refl (omega arith, omega arith) (omega arith, omega arith) (omega arith, omega arith) refl refl

first_40000 : Spells 0x40000 (0xF1 ∷ 0x80 ∷ 0x80 ∷ 0x80 ∷ [])
first_40000 = from_40000 0xF1 0x80 0x80 0x80 (omega arith, omega arith) (omega arith, omega arith) (omega arith, omega arith) (
  omega arith,
  omega arith,
) refl refl

last_40000 : Spells 0xFFFFF (0xF3 ∷ 0xBF ∷ 0xBF ∷ 0xBF ∷ [])
last_40000 = from_40000 0xF3 0xBF 0xBF 0xBF (omega arith, omega arith) (omega arith, omega arith) (omega arith, omega arith) (
  omega arith,
  omega arith,
) refl refl

first_100000 : Spells 0x100000 (0xF4 ∷ 0x80 ∷ 0x80 ∷ 0x80 ∷ [])
first_100000 = from_100000 0xF4 0x80 0x80 0x80 refl (omega arith, omega arith) (omega arith, omega arith) (
  omega arith,
  omega arith,
) refl refl

last_100000 : Spells 0x10FFFF (0xF4 ∷ 0x8F ∷ 0xBF ∷ 0xBF ∷ [])
last_100000 = from_100000 0xF4 0x8F 0xBF 0xBF refl (omega arith, omega arith) (omega arith, omega arith) (
  omega arith,
  omega arith,
) refl refl

overlong_two : (c : ℕ) → ¬ (Spells c (0xC0 ∷ 0x80 ∷ []))
overlong_two c h = grind arith

overlong_slash : (c : ℕ) → ¬ (Spells c (0xC1 ∷ 0xBF ∷ []))
overlong_slash c h = grind arith

overlong_three : (c : ℕ) → ¬ (Spells c (0xE0 ∷ 0x9F ∷ 0xBF ∷ []))
overlong_three c h = grind arith

first_surrogate : (c : ℕ) → ¬ (Spells c (0xED ∷ 0xA0 ∷ 0x80 ∷ []))
first_surrogate c h = grind arith

last_surrogate : (c : ℕ) → ¬ (Spells c (0xED ∷ 0xBF ∷ 0xBF ∷ []))
last_surrogate c h = grind arith

overlong_four : (c : ℕ) → ¬ (Spells c (0xF0 ∷ 0x8F ∷ 0xBF ∷ 0xBF ∷ []))
overlong_four c h = grind arith

above_the_last : (c : ℕ) → ¬ (Spells c (0xF4 ∷ 0x90 ∷ 0x80 ∷ 0x80 ∷ []))
above_the_last c h = grind arith

no_lead : (c : ℕ) → ¬ (Spells c (0x80 ∷ []))
no_lead c h = grind arith

cut_short : (c : ℕ) → ¬ (Spells c (0xE2 ∷ 0x82 ∷ []))
cut_short c h = grind arith

-- "é!", C3 A9 21: its offsets are 0 to 3, of which 1 lies inside the first character
start_is_boundary : is_boundary (0xC3 ∷ 0xA9 ∷ 0x21 ∷ []) 0 ≡ true
start_is_boundary = refl

inside_is_none : is_boundary (0xC3 ∷ 0xA9 ∷ 0x21 ∷ []) 1 ≡ false
inside_is_none = refl

between_is_boundary : is_boundary (0xC3 ∷ 0xA9 ∷ 0x21 ∷ []) 2 ≡ true
between_is_boundary = refl

end_is_boundary : is_boundary (0xC3 ∷ 0xA9 ∷ 0x21 ∷ []) 3 ≡ true
end_is_boundary = refl

beyond_is_none : is_boundary (0xC3 ∷ 0xA9 ∷ 0x21 ∷ []) 4 ≡ false
beyond_is_none = refl

byte_at_last : byte_at (0x61 ∷ 0x62 ∷ []) 1 ≡ Some 0x62
byte_at_last = refl

byte_at_end : byte_at (0x61 ∷ 0x62 ∷ []) 2 ≡ None
byte_at_end = refl

byte_before_start : byte_before (0x61 ∷ 0x62 ∷ []) 0 ≡ None
byte_before_start = refl

byte_before_end : byte_before (0x61 ∷ 0x62 ∷ []) 2 ≡ Some 0x62
byte_before_end = refl

byte_before_beyond : byte_before (0x61 ∷ 0x62 ∷ []) 3 ≡ None
byte_before_beyond = refl

underscore_is_word : is_word_byte 0x5F ≡ true
underscore_is_word = refl

backquote_is_none : is_word_byte 0x60 ≡ false
backquote_is_none = refl
