-- UTF-8: which bytes spell a scalar value, by Table 3-7 of the Unicode Standard, and where valid UTF-8 may be cut.
use Rattle.std.specs.Prelude.{◌≡◌, ℕ, ◌+◌, ◌-◌, ◌*◌, ◌<◌, Bool, ◌&&◌, ◌||◌, ◌==◌, nat_lt, nat_le, List, [], ◌∷◌, ◌++◌, length, slice_index}
use Rattle.std.specs.Prelude.{Option, Some, None, Result, Ok, Err}
use Rattle.std.specs.Int.{IsInRange, is_in_range}
use Rattle.search_core.specs.Text.{byte_at, byte_before}

-- a byte that continues a spelling: six bits of the scalar
abbrev pub IsContinuation : ℕ → Type 0
IsContinuation b = IsInRange 0x80 0xBF b

-- the scalar of two, three and four bytes: the low bits of the first byte, then six bits of each other
abbrev pub scalar_of_two : ℕ → ℕ → ℕ
scalar_of_two a b = (a - 0xC0) * 64 + (b - 0x80)

abbrev pub scalar_of_three : ℕ → ℕ → ℕ → ℕ
scalar_of_three a b d = (a - 0xE0) * 4096 + (b - 0x80) * 64 + (d - 0x80)

abbrev pub scalar_of_four : ℕ → ℕ → ℕ → ℕ → ℕ
scalar_of_four a b d e = (a - 0xF0) * 262144 + (b - 0x80) * 4096 + (d - 0x80) * 64 + (e - 0x80)

-- the bytes spell the scalar value c: a case for each row of the table, named by the row's first scalar
pub data Spells (c : ℕ) (bytes : List ℕ) : Type 0 where
  from_0000 : (a : ℕ) → IsInRange 0x00 0x7F a → bytes ≡ a ∷ [] → c ≡ a → Spells c bytes
  from_0080 : (a b : ℕ) → IsInRange 0xC2 0xDF a → IsContinuation b → bytes ≡ a ∷ b ∷ [] → c ≡ scalar_of_two a b → Spells c bytes
  from_0800 : (a b d : ℕ) → a ≡ 0xE0 → IsInRange 0xA0 0xBF b → IsContinuation d → bytes ≡ a ∷ b ∷ d ∷ [] → c ≡ scalar_of_three a b d →
      Spells c bytes
  from_1000 : (a b d : ℕ) → IsInRange 0xE1 0xEC a → IsContinuation b → IsContinuation d → bytes ≡ a ∷ b ∷ d ∷ [] →
      c ≡ scalar_of_three a b d → Spells c bytes
  from_d000 : (a b d : ℕ) → a ≡ 0xED → IsInRange 0x80 0x9F b → IsContinuation d → bytes ≡ a ∷ b ∷ d ∷ [] → c ≡ scalar_of_three a b d →
      Spells c bytes
  from_e000 : (a b d : ℕ) → IsInRange 0xEE 0xEF a → IsContinuation b → IsContinuation d → bytes ≡ a ∷ b ∷ d ∷ [] →
      c ≡ scalar_of_three a b d → Spells c bytes
  from_10000 : (a b d e : ℕ) → a ≡ 0xF0 → IsInRange 0x90 0xBF b → IsContinuation d → IsContinuation e → bytes ≡ a ∷ b ∷ d ∷ e ∷ [] →
      c ≡ scalar_of_four a b d e → Spells c bytes
  from_40000 : (a b d e : ℕ) → IsInRange 0xF1 0xF3 a → IsContinuation b → IsContinuation d → IsContinuation e → bytes ≡ a ∷ b ∷ d ∷ e ∷ [] →
      c ≡ scalar_of_four a b d e → Spells c bytes
  from_100000 : (a b d e : ℕ) → a ≡ 0xF4 → IsInRange 0x80 0x8F b → IsContinuation d → IsContinuation e → bytes ≡ a ∷ b ∷ d ∷ e ∷ [] →
      c ≡ scalar_of_four a b d e → Spells c bytes

-- the bytes start with a spelling of c
pub record SpellsFirst (c : ℕ) (bytes : List ℕ) : Type 0 where
  pub spelling : List ℕ
  pub rest : List ℕ
  pub spells : Spells c spelling
  pub joined : bytes ≡ spelling ++ rest

-- the bytes end with a spelling of c
pub record SpellsLast (c : ℕ) (bytes : List ℕ) : Type 0 where
  pub front : List ℕ
  pub spelling : List ℕ
  pub spells : Spells c spelling
  pub joined : bytes ≡ front ++ spelling

-- what reading the first scalar of the bytes gives: `None` if there are no bytes; otherwise the scalar with whose
-- spelling they start; if there is none, the first byte
abbrev pub Decodes : List ℕ → Option (Result ℕ ℕ) → Type 0
Decodes bytes None = bytes ≡ []
Decodes bytes (Some (Ok c)) = SpellsFirst c bytes
Decodes bytes (Some (Err b)) = (byte_at bytes 0 ≡ Some b) × ((c : ℕ) → ¬ (SpellsFirst c bytes))

-- what reading the last scalar gives
abbrev pub DecodesLast : List ℕ → Option (Result ℕ ℕ) → Type 0
DecodesLast bytes None = bytes ≡ []
DecodesLast bytes (Some (Ok c)) = SpellsLast c bytes
DecodesLast bytes (Some (Err b)) = (byte_before bytes (length bytes) ≡ Some b) × ((c : ℕ) → ¬ (SpellsLast c bytes))

-- the bytes are spellings of scalars, one after another
pub data IsValidText : List ℕ → Type 0 where
  no_spelling : (bytes : List ℕ) → bytes ≡ [] → IsValidText bytes
  spelling_then : (c : ℕ) (spelling rest bytes : List ℕ) → Spells c spelling → IsValidText rest → bytes ≡ spelling ++ rest →
      IsValidText bytes

-- the offset lies strictly inside a spelling of the valid UTF-8 bytes h
pub record IsSplit (h : List ℕ) (i : ℕ) : Type 0 where
  pub before : List ℕ
  pub spelling : List ℕ
  pub after : List ℕ
  pub scalar : ℕ
  pub before_valid : IsValidText before
  pub spells : Spells scalar spelling
  pub after_valid : IsValidText after
  pub joined : h ≡ before ++ (spelling ++ after)
  pub above : length before < i
  pub below : i < length before + length spelling

-- the offset is the end of the bytes, or the byte right after it doesn't continue a spelling
abbrev pub is_boundary : List ℕ → ℕ → Bool
is_boundary h i = (i == length h) || (nat_lt i (length h) && (nat_le (slice_index h i) 0x7F || nat_le 0xC0 (slice_index h i)))

-- a digit, a letter or the underscore of ASCII
abbrev pub is_word_byte : ℕ → Bool
is_word_byte b = is_in_range 0x30 0x39 b || is_in_range 0x41 0x5A b || b == 0x5F || is_in_range 0x61 0x7A b

-- b may be the second byte after a first byte a in a spelling of three bytes
abbrev pub second_of_three : ℕ → ℕ → Bool
second_of_three a b =
    (a == 0xE0 && is_in_range 0xA0 0xBF b)
    || (is_in_range 0xE1 0xEC a && is_in_range 0x80 0xBF b)
    || (a == 0xED && is_in_range 0x80 0x9F b)
    || (is_in_range 0xEE 0xEF a && is_in_range 0x80 0xBF b)

-- the same for the first two bytes of a spelling of four bytes
abbrev pub second_of_four : ℕ → ℕ → Bool
second_of_four a b =
    (a == 0xF0 && is_in_range 0x90 0xBF b)
    || (is_in_range 0xF1 0xF3 a && is_in_range 0x80 0xBF b)
    || (a == 0xF4 && is_in_range 0x80 0x8F b)
