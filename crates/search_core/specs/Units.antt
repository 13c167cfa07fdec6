-- A unit of input: a byte or the end of the input.
use Rattle.std.specs.Prelude.{◌==◌, Bool, false, ℕ, Option, Some, None}
use Rattle.search_core.specs.Utf8.{is_word_byte}
use Rattle.search_core.specs.declared.unit.Unit.{Unit as InputUnit}
use Rattle.search_core.specs.declared.unit.Unit.TheVariants.{Byte, End}

-- the byte of a unit, `None` at the end of the input
abbrev pub unit_byte : InputUnit → Option ℕ
unit_byte (Byte b) = Some b
unit_byte (End n) = None

-- the number of the end of the input, `None` at a byte
abbrev pub unit_end : InputUnit → Option ℕ
unit_end (Byte b) = None
unit_end (End n) = Some n

-- the byte, or the number of the end of the input
abbrev pub unit_number : InputUnit → ℕ
unit_number (Byte b) = b
unit_number (End n) = n

-- whether the unit is this byte
abbrev pub is_unit_byte : InputUnit → ℕ → Bool
is_unit_byte (Byte b) c = b == c
is_unit_byte (End n) c = false

-- whether the unit is a word byte; the end of the input is none
abbrev pub is_word_unit : InputUnit → Bool
is_word_unit (Byte b) = is_word_byte b
is_word_unit (End n) = false
