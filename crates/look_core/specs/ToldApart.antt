-- The ranges of bytes that a look distinguishes. Within one range, and outside of all ranges, the look treats all bytes
-- alike, if words are read as bytes of ASCII.
use Rattle.std.specs.Prelude.{ℕ, Some, None, List, [], ◌∷◌}
use Rattle.look_core.specs.Terminators.{Terminator}
use Rattle.look_core.specs.declared.look.Look.{Look}
use Rattle.look_core.specs.declared.look.Look.TheVariants.{Start, End, StartLF, EndLF, StartCRLF, EndCRLF, WordAscii, WordAsciiNegate}
use Rattle.look_core.specs.declared.look.Look.TheVariants.{WordUnicode, WordUnicodeNegate, WordStartAscii, WordEndAscii, WordStartUnicode}
use Rattle.look_core.specs.declared.look.Look.TheVariants.{WordEndUnicode, WordStartHalfAscii, WordEndHalfAscii, WordStartHalfUnicode}
use Rattle.look_core.specs.declared.look.Look.TheVariants.{WordEndHalfUnicode}

-- the bytes of a terminator, each as a range
abbrev pub line_ends : Terminator → List (ℕ × ℕ)
line_ends (a, None) = (a, a) ∷ []
line_ends (a, Some b) = (a, a) ∷ (b, b) ∷ []

-- the line feed and the carriage return, each as a range
abbrev pub crlf_ranges : List (ℕ × ℕ)
crlf_ranges = (0x0A, 0x0A) ∷ (0x0D, 0x0D) ∷ []

-- the word bytes: digits, capital letters, the underscore and small letters
abbrev pub word_ranges : List (ℕ × ℕ)
word_ranges = (0x30, 0x39) ∷ (0x41, 0x5A) ∷ (0x5F, 0x5F) ∷ (0x61, 0x7A) ∷ []

-- the ranges that the look distinguishes if lines end at the terminator; the edges of the haystack aren't bytes
abbrev pub ranges_apart : Terminator → Look → List (ℕ × ℕ)
ranges_apart t Start = []
ranges_apart t End = []
ranges_apart t StartLF = line_ends t
ranges_apart t EndLF = line_ends t
ranges_apart t StartCRLF = crlf_ranges
ranges_apart t EndCRLF = crlf_ranges
ranges_apart t WordAscii = word_ranges
ranges_apart t WordAsciiNegate = word_ranges
ranges_apart t WordUnicode = word_ranges
ranges_apart t WordUnicodeNegate = word_ranges
ranges_apart t WordStartAscii = word_ranges
ranges_apart t WordEndAscii = word_ranges
ranges_apart t WordStartUnicode = word_ranges
ranges_apart t WordEndUnicode = word_ranges
ranges_apart t WordStartHalfAscii = word_ranges
ranges_apart t WordEndHalfAscii = word_ranges
ranges_apart t WordStartHalfUnicode = word_ranges
ranges_apart t WordEndHalfUnicode = word_ranges
