-- The character whose spelling begins or ends at an offset of a byte string, computed.
use Rattle.std.specs.Prelude.{ℕ, ◌+◌, ◌-◌, ◌&&◌, nat_lt, nat_le, List, length, slice_index_or, Option, Some, None, Result, if◌then◌else◌}
use Rattle.std.specs.Int.{is_in_range}
use Rattle.std.specs.Option.{option_or, option_map, ok_or}
use Rattle.search_core.specs.Text.{byte_at, byte_before}
use Rattle.search_core.specs.Utf8.{scalar_of_two, scalar_of_three, scalar_of_four, second_of_three, second_of_four}

-- the byte with index k, or 0 if there is none; 0 doesn't continue a spelling
abbrev pub byte_or_zero : List ℕ → ℕ → ℕ
byte_or_zero h k = slice_index_or h k 0

-- the scalar that one byte from offset k on spells, or two, three or four bytes; None: they spell no scalar
abbrev pub one_byte : List ℕ → ℕ → Option ℕ
one_byte h k = if nat_lt k (length h) && nat_le (byte_or_zero h k) 0x7F then Some (byte_or_zero h k) else None

abbrev pub two_bytes : List ℕ → ℕ → Option ℕ
two_bytes h k =
    if is_in_range 0xC2 0xDF (byte_or_zero h k) && is_in_range 0x80 0xBF (byte_or_zero h (k + 1))
    then Some (scalar_of_two (byte_or_zero h k) (byte_or_zero h (k + 1))) else None

abbrev pub three_bytes : List ℕ → ℕ → Option ℕ
three_bytes h k =
    if second_of_three (byte_or_zero h k) (byte_or_zero h (k + 1)) && is_in_range 0x80 0xBF (byte_or_zero h (k + 2))
    then Some (scalar_of_three (byte_or_zero h k) (byte_or_zero h (k + 1)) (byte_or_zero h (k + 2))) else None

abbrev pub four_bytes : List ℕ → ℕ → Option ℕ
four_bytes h k =
    if second_of_four (byte_or_zero h k) (byte_or_zero h (k + 1)) && is_in_range 0x80 0xBF (byte_or_zero h (k + 2))
    && is_in_range 0x80 0xBF (byte_or_zero h (k + 3))
    then Some (scalar_of_four (byte_or_zero h k) (byte_or_zero h (k + 1)) (byte_or_zero h (k + 2)) (byte_or_zero h (k + 3))) else None

-- the character whose spelling begins at the offset; no two of these lengths fit at once
abbrev pub character_at : List ℕ → ℕ → Option ℕ
character_at h i = option_or (one_byte h i) (option_or (two_bytes h i) (option_or (three_bytes h i) (four_bytes h i)))

-- what a spelling of n bytes that ends at the offset spells
abbrev pub ending_at : ℕ → (List ℕ → ℕ → Option ℕ) → List ℕ → ℕ → Option ℕ
ending_at n spelled h i = if nat_le n i then spelled h (i - n) else None

-- the character whose spelling ends at the offset
abbrev pub character_before : List ℕ → ℕ → Option ℕ
character_before h i = option_or (ending_at 1 one_byte h i) (option_or (ending_at 2 two_bytes h i)
    (option_or (ending_at 3 three_bytes h i) (ending_at 4 four_bytes h i)))

-- how many bytes spell the scalar
abbrev pub spelling_len : ℕ → ℕ
spelling_len c = if nat_le c 0x7F then 1 else if nat_le c 0x7FF then 2 else if nat_le c 0xFFFF then 3 else 4

-- what reading the first scalar from the offset on gives: `None` if there is no byte; otherwise the character that begins
-- there; if none does, the byte
abbrev pub read_at : List ℕ → ℕ → Option (Result ℕ ℕ)
read_at h i = option_map (λ b. ok_or (character_at h i) b) (byte_at h i)

-- what reading the last scalar before the offset gives
abbrev pub read_before : List ℕ → ℕ → Option (Result ℕ ℕ)
read_before h i = option_map (λ b. ok_or (character_before h i) b) (byte_before h i)
