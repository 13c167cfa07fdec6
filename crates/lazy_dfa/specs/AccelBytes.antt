-- The bytes by which a search may leave a state, so that a search for one of them can skip all others.
use Rattle.std.specs.Prelude.{◌||◌, ◌==◌, ℕ, Bool, false}
use Rattle.lazy_dfa.specs.ByteTests.{in_range, in_halves, in_rows}
use Rattle.lazy_dfa.specs.declared.accel.accel_bytes.Leaving.{Leaving}
use Rattle.lazy_dfa.specs.declared.accel.accel_bytes.Leaving.TheVariants.{Never, One, Two, Three, Range, Ranges, Halves, Rows}

-- whether the byte is one of these
abbrev pub leaves : Leaving → ℕ → Bool
leaves Never byte = false
leaves (One a) byte = byte == a
leaves (Two a b) byte = byte == a || byte == b
leaves (Three a b c) byte = byte == a || (byte == b || byte == c)
leaves (Range a) byte = in_range a byte
leaves (Ranges a b) byte = in_range a byte || in_range b byte
leaves (Halves tables) byte = in_halves tables.low tables.high byte
leaves (Rows tables) byte = in_rows tables.below tables.above byte
