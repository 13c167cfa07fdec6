-- Where a look (a look-around assertion) holds: by the bytes or characters next to the offset, read on the whole
-- haystack. The source is the table of assertions of `regex_automata::util::look`.
use Rattle.std.specs.Prelude.{◌≡◌, ◌<◌, ℕ, Bool, true, false, ◌&&◌, ◌||◌, ◌==◌, not, List, length, Option, Some, None}
use Rattle.search_core.specs.Text.{byte_at, byte_before}
use Rattle.search_core.specs.Utf8.{is_word_byte}
use Rattle.search_core.specs.Characters.{character_at, character_before}
use Rattle.look_core.specs.Terminators.{Terminator, ends_line}
use Rattle.look_core.specs.declared.look.Look.{Look}
use Rattle.look_core.specs.declared.look.Look.TheVariants.{Start, End, StartLF, EndLF, StartCRLF, EndCRLF, WordAscii, WordAsciiNegate}
use Rattle.look_core.specs.declared.look.Look.TheVariants.{WordUnicode, WordUnicodeNegate, WordStartAscii, WordEndAscii, WordStartUnicode}
use Rattle.look_core.specs.declared.look.Look.TheVariants.{WordEndUnicode, WordStartHalfAscii, WordEndHalfAscii, WordStartHalfUnicode}
use Rattle.look_core.specs.declared.look.Look.TheVariants.{WordEndHalfUnicode}

-- What one side of an offset reads as: a word; no word, as at the edge of the haystack; or a byte that belongs to no
-- character that ends or begins at the offset.
pub data Side : Type 0 where
  word : Side
  no_word : Side
  broken : Side

abbrev pub is_word : Side → Bool
is_word word = true
is_word no_word = false
is_word broken = false

abbrev pub is_no_word : Side → Bool
is_no_word word = false
is_no_word no_word = true
is_no_word broken = false

-- how the two sides of an offset of a haystack are read
pub record Reading : Type 0 where
  pub before : List ℕ → ℕ → Side
  pub after : List ℕ → ℕ → Side

abbrev pub word_if : Bool → Side
word_if true = word
word_if false = no_word

-- how a side with this byte, or without a byte, reads if the byte is read by itself
abbrev pub byte_side : Option ℕ → Side
byte_side None = no_word
byte_side (Some b) = word_if (is_word_byte b)

-- words as bytes of ASCII
abbrev pub by_bytes : Reading
by_bytes = record { before = λ h i. byte_side (byte_before h i); after = λ h i. byte_side (byte_at h i) }

-- how a side with this byte, or without a byte, reads if the byte belongs to this character, or to none
abbrev pub character_side : (ℕ → Bool) → Option ℕ → Option ℕ → Side
character_side words None c = no_word
character_side words (Some b) None = broken
character_side words (Some b) (Some c) = word_if (words c)

-- words as characters of a set: the character whose spelling ends at the offset, and the one whose spelling begins there
abbrev pub by_characters : (ℕ → Bool) → Reading
by_characters words = record {
  before = λ h i. character_side words (byte_before h i) (character_before h i);
  after = λ h i. character_side words (byte_at h i) (character_at h i);
}

-- a set of word characters agrees with the word bytes on ASCII
abbrev pub IsWordSet : (ℕ → Bool) → Type 0
IsWordSet words = (c : ℕ) → c < 128 → words c ≡ is_word_byte c

-- a word on one side alone
abbrev pub is_edge_of_word : Side → Side → Bool
is_edge_of_word b a = (is_word b && not (is_word a)) || (not (is_word b) && is_word a)

-- two words or none; a broken side is neither
abbrev pub is_no_edge_of_word : Side → Side → Bool
is_no_edge_of_word b a = (is_word b && is_word a) || (is_no_word b && is_no_word a)

abbrev pub is_start_of_word : Side → Side → Bool
is_start_of_word b a = not (is_word b) && is_word a

abbrev pub is_end_of_word : Side → Side → Bool
is_end_of_word b a = is_word b && not (is_word a)

-- whether it is this byte
abbrev pub is_byte : ℕ → Option ℕ → Bool
is_byte b None = false
is_byte b (Some c) = b == c

-- whether it is a byte that ends a line
abbrev pub is_line_end : Terminator → Option ℕ → Bool
is_line_end t None = false
is_line_end t (Some b) = ends_line t b

-- Whether the look holds at the offset i of the haystack h. Lines end at the terminator t. The six Unicode looks read
-- the two sides of the offset by the reading r; the ASCII ones read bytes.
abbrev pub holds_by : Reading → Terminator → List ℕ → Look → ℕ → Bool
holds_by r t h Start i = i == 0
holds_by r t h End i = i == length h
holds_by r t h StartLF i = (i == 0) || is_line_end t (byte_before h i)
holds_by r t h EndLF i = (i == length h) || is_line_end t (byte_at h i)
holds_by r t h StartCRLF i = (i == 0) || is_byte 0x0A (byte_before h i)
    || (is_byte 0x0D (byte_before h i) && not (is_byte 0x0A (byte_at h i)))
holds_by r t h EndCRLF i = (i == length h) || is_byte 0x0D (byte_at h i)
    || (is_byte 0x0A (byte_at h i) && not (is_byte 0x0D (byte_before h i)))
holds_by r t h WordAscii i = is_edge_of_word (by_bytes.before h i) (by_bytes.after h i)
holds_by r t h WordAsciiNegate i = is_no_edge_of_word (by_bytes.before h i) (by_bytes.after h i)
holds_by r t h WordUnicode i = is_edge_of_word (r.before h i) (r.after h i)
holds_by r t h WordUnicodeNegate i = is_no_edge_of_word (r.before h i) (r.after h i)
holds_by r t h WordStartAscii i = is_start_of_word (by_bytes.before h i) (by_bytes.after h i)
holds_by r t h WordEndAscii i = is_end_of_word (by_bytes.before h i) (by_bytes.after h i)
holds_by r t h WordStartUnicode i = is_start_of_word (r.before h i) (r.after h i)
holds_by r t h WordEndUnicode i = is_end_of_word (r.before h i) (r.after h i)
holds_by r t h WordStartHalfAscii i = is_no_word (by_bytes.before h i)
holds_by r t h WordEndHalfAscii i = is_no_word (by_bytes.after h i)
holds_by r t h WordStartHalfUnicode i = is_no_word (r.before h i)
holds_by r t h WordEndHalfUnicode i = is_no_word (r.after h i)

-- with words as characters of a set: where a look holds
abbrev pub holds : (ℕ → Bool) → Terminator → List ℕ → Look → ℕ → Bool
holds words t h l i = holds_by (by_characters words) t h l i

-- with words as bytes of ASCII, as an automaton over bytes reads them
abbrev pub holds_ascii : Terminator → List ℕ → Look → ℕ → Bool
holds_ascii t h l i = holds_by by_bytes t h l i
