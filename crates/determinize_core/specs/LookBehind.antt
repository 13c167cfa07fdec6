-- The look-behind of a start: what is known of the offset where a search starts, by the kind of what comes before it. In reverse that is
-- what comes after the offset, and each look stands for its reverse.
use Rattle.std.specs.Prelude.{ℕ, ◌&&◌, ◌||◌, not, Bool, true, false, if◌then◌else◌}
use Rattle.look_core.specs.Codes.{is_anchor_haystack, is_anchor_lf, is_anchor_crlf, is_word_look}
use Rattle.look_core.specs.LookSets.{has_any, with_look, union_of}
use Rattle.look_core.specs.Terminators.{Terminator, ends_line}
use Rattle.look_core.specs.declared.look.Look.{Look}
use Rattle.look_core.specs.declared.look.Look.TheVariants.{Start as AtStart, StartLF, StartCRLF, WordStartHalfAscii, WordStartHalfUnicode}
use Rattle.determinize_core.specs.States.{StateValue}
use Rattle.determinize_core.specs.declared.start.Start.{Start}
use Rattle.determinize_core.specs.declared.start.Start.TheVariants.{NonWordByte, WordByte, Text, LineLF, LineCR, CustomLineTerminator}
use Rattle.determinize_core.specs.declared.start.Start.TheVariants.{CustomWordLineTerminator}
use Rattle.determinize_core.specs.declared.lookbehind.LookBehind.{LookBehind}
use Rattle.determinize_core.specs.declared.lookbehind.Families.{Families}

-- of which families a set has looks: of the haystack's edges, of lines by the line terminator, of lines by carriage return and line feed,
-- and of words
unfoldable pub families_of : ℕ → Families
families_of looks = record {
  haystack = has_any is_anchor_haystack looks;
  lines = has_any is_anchor_lf looks;
  crlf = has_any is_anchor_crlf looks;
  words = has_any is_word_look looks;
}

-- the set, with the look added if it is wanted
abbrev pub with_if : Bool → Look → ℕ → ℕ
with_if wanted l s = if wanted then with_look s l else s

-- the looks of families that depend only on what comes before an offset
abbrev pub starts_of : Families → ℕ
starts_of f = with_if f.words WordStartHalfUnicode (with_if f.words WordStartHalfAscii
    (with_if f.crlf StartCRLF (with_if f.lines StartLF (with_if f.haystack AtStart 0))))

-- no byte before the offset
abbrev pub after_nothing : Families → LookBehind
after_nothing f = record { is_from_word = false; is_half_crlf = false; look_have = starts_of f }

-- the families whose looks hold after a line feed or a carriage return, and after another byte
abbrev pub known_at_line : Families → Bool → Bool → Families
known_at_line f is_first_half ends_line = record {
  haystack = false;
  lines = ends_line && f.lines;
  crlf = not is_first_half && f.crlf;
  words = f.words;
}

abbrev pub known_at_byte : Families → Bool → Bool → Families
known_at_byte f ends_line is_word = record { haystack = false; lines = ends_line && f.lines; crlf = false; words = not is_word && f.words }

-- A line feed or a carriage return. Either it is the first half of their pair in the order of the search, or it ends a line by itself. It
-- may also end a line by the line terminator.
abbrev pub after_line_end : Families → Bool → Bool → LookBehind
after_line_end f is_first_half ends_line = record {
  is_from_word = false;
  is_half_crlf = is_first_half && f.crlf;
  look_have = starts_of (known_at_line f is_first_half ends_line);
}

-- another byte, which ends a line by the line terminator or not, and is a word byte or not
abbrev pub after_byte : Families → Bool → Bool → LookBehind
after_byte f ends_line is_word = record {
  is_from_word = is_word && f.words;
  is_half_crlf = false;
  look_have = starts_of (known_at_byte f ends_line is_word);
}

-- what is known of a start, by the families of looks that are wanted, whether the search is in reverse, and the line terminator
abbrev pub behind_start : Families → Bool → Terminator → Start → LookBehind
behind_start f reverse t Text = after_nothing f
behind_start f reverse t LineLF = after_line_end f reverse (ends_line t 0x0A)
behind_start f reverse t LineCR = after_line_end f (not reverse) (ends_line t 0x0D)
behind_start f reverse t NonWordByte = after_byte f false false
behind_start f reverse t WordByte = after_byte f false true
behind_start f reverse t CustomLineTerminator = after_byte f true false
behind_start f reverse t CustomWordLineTerminator = after_byte f true true

-- what is known of a start, by the looks of an automaton
abbrev pub look_behind : ℕ → Bool → Terminator → Start → LookBehind
look_behind looks reverse t start = behind_start (families_of looks) reverse t start

-- the looks that are decided by what comes before an offset alone
abbrev pub is_decided : Look → Bool
is_decided AtStart = true
is_decided StartLF = true
is_decided WordStartHalfAscii = true
is_decided WordStartHalfUnicode = true
is_decided _ = false

-- the state, with what is known of its offset added
abbrev pub with_look_behind : LookBehind → StateValue → StateValue
with_look_behind b v = record v {
  is_from_word = v.is_from_word || b.is_from_word;
  is_half_crlf = v.is_half_crlf || b.is_half_crlf;
  look_have = union_of v.look_have b.look_have;
}
