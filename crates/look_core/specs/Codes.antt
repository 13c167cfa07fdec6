-- The eighteen looks: their numbers, their reverses, and the families that a set is asked for.
use Rattle.std.specs.Prelude.{ℕ, ◌^◌, ◌||◌, ◌==◌, Bool, true, false, List, [], ◌∷◌}
use Rattle.look_core.specs.declared.look.Look.{Look}
use Rattle.look_core.specs.declared.look.Look.TheVariants.{Start, End, StartLF, EndLF, StartCRLF, EndCRLF, WordAscii, WordAsciiNegate}
use Rattle.look_core.specs.declared.look.Look.TheVariants.{WordUnicode, WordUnicodeNegate, WordStartAscii, WordEndAscii, WordStartUnicode}
use Rattle.look_core.specs.declared.look.Look.TheVariants.{WordEndUnicode, WordStartHalfAscii, WordEndHalfAscii, WordStartHalfUnicode}
use Rattle.look_core.specs.declared.look.Look.TheVariants.{WordEndHalfUnicode}

-- the number of a look's bit in a set of looks
abbrev pub bit_of : Look → ℕ
bit_of Start = 0
bit_of End = 1
bit_of StartLF = 2
bit_of EndLF = 3
bit_of StartCRLF = 4
bit_of EndCRLF = 5
bit_of WordAscii = 6
bit_of WordAsciiNegate = 7
bit_of WordUnicode = 8
bit_of WordUnicodeNegate = 9
bit_of WordStartAscii = 10
bit_of WordEndAscii = 11
bit_of WordStartUnicode = 12
bit_of WordEndUnicode = 13
bit_of WordStartHalfAscii = 14
bit_of WordEndHalfAscii = 15
bit_of WordStartHalfUnicode = 16
bit_of WordEndHalfUnicode = 17

-- whether it is the same look
abbrev pub same_look : Look → Look → Bool
same_look k l = bit_of k == bit_of l

-- the number that stands for a look
abbrev pub repr : Look → ℕ
repr l = 2 ^ bit_of l

-- all looks, by their bits
abbrev pub all_looks : List Look
all_looks = Start ∷ End ∷ StartLF ∷ EndLF ∷ StartCRLF ∷ EndCRLF ∷ WordAscii ∷ WordAsciiNegate ∷ WordUnicode ∷ WordUnicodeNegate ∷
    WordStartAscii ∷ WordEndAscii ∷ WordStartUnicode ∷ WordEndUnicode ∷ WordStartHalfAscii ∷ WordEndHalfAscii ∷ WordStartHalfUnicode ∷
    WordEndHalfUnicode ∷ []

-- the look that holds in the reversed haystack where this one holds
abbrev pub reversed : Look → Look
reversed Start = End
reversed End = Start
reversed StartLF = EndLF
reversed EndLF = StartLF
reversed StartCRLF = EndCRLF
reversed EndCRLF = StartCRLF
reversed WordAscii = WordAscii
reversed WordAsciiNegate = WordAsciiNegate
reversed WordUnicode = WordUnicode
reversed WordUnicodeNegate = WordUnicodeNegate
reversed WordStartAscii = WordEndAscii
reversed WordEndAscii = WordStartAscii
reversed WordStartUnicode = WordEndUnicode
reversed WordEndUnicode = WordStartUnicode
reversed WordStartHalfAscii = WordEndHalfAscii
reversed WordEndHalfAscii = WordStartHalfAscii
reversed WordStartHalfUnicode = WordEndHalfUnicode
reversed WordEndHalfUnicode = WordStartHalfUnicode

-- the character that stands for a look
abbrev pub char_of : Look → ℕ
char_of Start = 0x41
char_of End = 0x7A
char_of StartLF = 0x5E
char_of EndLF = 0x24
char_of StartCRLF = 0x72
char_of EndCRLF = 0x52
char_of WordAscii = 0x62
char_of WordAsciiNegate = 0x42
char_of WordUnicode = 0x1D6C3
char_of WordUnicodeNegate = 0x1D6A9
char_of WordStartAscii = 0x3C
char_of WordEndAscii = 0x3E
char_of WordStartUnicode = 0x3008
char_of WordEndUnicode = 0x3009
char_of WordStartHalfAscii = 0x25C1
char_of WordEndHalfAscii = 0x25B7
char_of WordStartHalfUnicode = 0x25C0
char_of WordEndHalfUnicode = 0x25B6

-- the edges of the haystack
abbrev pub is_anchor_haystack : Look → Bool
is_anchor_haystack Start = true
is_anchor_haystack End = true
is_anchor_haystack _ = false

-- lines by the line terminator
abbrev pub is_anchor_lf : Look → Bool
is_anchor_lf StartLF = true
is_anchor_lf EndLF = true
is_anchor_lf _ = false

-- lines by carriage return and line feed
abbrev pub is_anchor_crlf : Look → Bool
is_anchor_crlf StartCRLF = true
is_anchor_crlf EndCRLF = true
is_anchor_crlf _ = false

abbrev pub is_anchor_line : Look → Bool
is_anchor_line l = is_anchor_lf l || is_anchor_crlf l

abbrev pub is_anchor : Look → Bool
is_anchor l = is_anchor_haystack l || is_anchor_line l

-- words by characters
abbrev pub is_word_unicode : Look → Bool
is_word_unicode WordUnicode = true
is_word_unicode WordUnicodeNegate = true
is_word_unicode WordStartUnicode = true
is_word_unicode WordEndUnicode = true
is_word_unicode WordStartHalfUnicode = true
is_word_unicode WordEndHalfUnicode = true
is_word_unicode _ = false

-- words by bytes
abbrev pub is_word_ascii : Look → Bool
is_word_ascii WordAscii = true
is_word_ascii WordAsciiNegate = true
is_word_ascii WordStartAscii = true
is_word_ascii WordEndAscii = true
is_word_ascii WordStartHalfAscii = true
is_word_ascii WordEndHalfAscii = true
is_word_ascii _ = false

abbrev pub is_word_look : Look → Bool
is_word_look l = is_word_unicode l || is_word_ascii l
