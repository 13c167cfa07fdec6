-- Starts of searches: what comes before the offset where a search starts, as far as looks depend on it, and what a search gets as its
-- start.
use Rattle.std.specs.Prelude.{◌≡◌, ◌<◌, ◌==◌, ℕ, Bool, true, false, Option, Some, None, List, slice_index_or, if◌then◌else◌}
use Rattle.search_core.specs.Utf8.{is_word_byte}
use Rattle.look_core.specs.Terminators.{Terminator, ends_line}
use Rattle.search_types.specs.declared.anchored.Anchored.{Anchored}
use Rattle.determinize_core.specs.declared.start.Start.{Start}
use Rattle.determinize_core.specs.declared.start.Start.TheVariants.{NonWordByte, WordByte, Text, LineLF, LineCR, CustomLineTerminator}
use Rattle.determinize_core.specs.declared.start.Start.TheVariants.{CustomWordLineTerminator}

-- the number of a start
abbrev pub number_of : Start → ℕ
number_of NonWordByte = 0
number_of WordByte = 1
number_of Text = 2
number_of LineLF = 3
number_of LineCR = 4
number_of CustomLineTerminator = 5
number_of CustomWordLineTerminator = 6

-- the start of a byte that is neither line feed nor carriage return: whether it ends lines, and whether it is a word byte
abbrev pub start_by : Bool → Bool → Start
start_by true true = CustomWordLineTerminator
start_by true false = CustomLineTerminator
start_by false true = WordByte
start_by false false = NonWordByte

-- the start if this byte, or none, comes before the offset; lines end at the terminator t
abbrev pub start_of : Terminator → Option ℕ → Start
start_of t None = Text
start_of t (Some b) = if b == 0x0A then LineLF else if b == 0x0D then LineCR else start_by (ends_line t b) (is_word_byte b)

-- the start of each byte by a table of all bytes; a byte outside the table has none, and reads as `Text`
abbrev pub start_by_table : List Start → ℕ → Start
start_by_table table b = slice_index_or table b Text

-- the table gives each byte its start
abbrev pub IsStartTable : Terminator → List Start → Type 0
IsStartTable t table = (b : ℕ) → b < 256 → start_by_table table b ≡ start_of t (Some b)

-- what a search gets as its start: the byte before its first offset, if there is one, and the mode
pub record StartValue : Type 0 where
  pub look_behind : Option ℕ
  pub anchored : Anchored
