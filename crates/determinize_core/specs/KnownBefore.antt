-- The looks that a unit decides at the offset before it, in two parts.
use Rattle.std.specs.Prelude.{ℕ, Bool, true, false, not, ◌&&◌, ◌||◌, Option, Some, None}
use Rattle.look_core.specs.Looks.{Side, is_no_word, is_edge_of_word, is_no_edge_of_word, is_start_of_word, is_end_of_word, is_byte}
use Rattle.look_core.specs.Looks.{is_line_end}
use Rattle.look_core.specs.Terminators.{Terminator}
use Rattle.look_core.specs.declared.look.Look.TheVariants.{End, EndLF, StartCRLF, EndCRLF, WordAscii, WordAsciiNegate, WordUnicode}
use Rattle.look_core.specs.declared.look.Look.TheVariants.{WordUnicodeNegate, WordStartAscii, WordEndAscii, WordStartUnicode}
use Rattle.look_core.specs.declared.look.Look.TheVariants.{WordEndUnicode, WordEndHalfAscii, WordEndHalfUnicode}
use Rattle.determinize_core.specs.LookBehind.{with_if}

-- the half of a CRLF that is read first, and the other half
abbrev pub first_half : Bool → ℕ
first_half false = 0x0D
first_half true = 0x0A

abbrev pub second_half : Bool → ℕ
second_half false = 0x0A
second_half true = 0x0D

abbrev pub is_end : Option ℕ → Bool
is_end None = true
is_end (Some b) = false

-- the looks, with those of words added, by the two sides of the offset
unfoldable pub known_words : Side → Side → ℕ → ℕ
known_words before after looks =
    with_if (is_edge_of_word before after) WordAscii
    (with_if (is_edge_of_word before after) WordUnicode
    (with_if (is_no_edge_of_word before after) WordAsciiNegate
    (with_if (is_no_edge_of_word before after) WordUnicodeNegate
    (with_if (is_start_of_word before after) WordStartAscii
    (with_if (is_start_of_word before after) WordStartUnicode
    (with_if (is_end_of_word before after) WordEndAscii
    (with_if (is_end_of_word before after) WordEndUnicode
    (with_if (is_no_word after) WordEndHalfAscii
    (with_if (is_no_word after) WordEndHalfUnicode looks)))))))))

-- The looks, with those of lines and of the haystack's edge added. They depend on whether the first half of a CRLF was read just before the
-- offset.
unfoldable pub known_lines : Bool → Terminator → Bool → Option ℕ → ℕ → ℕ
known_lines reverse t half u looks =
    with_if (is_end u) End
    (with_if (is_end u || is_line_end t u) EndLF
    (with_if (is_end u || (is_byte (first_half reverse) u || (is_byte (second_half reverse) u && not half))) EndCRLF
    (with_if (half && not (is_byte (second_half reverse) u)) StartCRLF looks)))
