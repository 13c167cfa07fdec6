-- The lines of a text in memory, where any byte ends them, and where they are.
use Rattle.std.specs.Prelude.{◌≡◌, ◌≤◌, ◌<◌, ℕ, ◌+◌, ◌==◌, List, [], ◌∷◌, drop, length, slice_range, if◌then◌else◌}
use Rattle.line_search.specs.Lines.{SplitLine, TextLine, ended, numbered, put_first}
use Rattle.text_report.specs.declared.lines.LineSpan.{LineSpan}

-- The parts of a text, each ended by this byte. After the last such byte there is a part only if bytes follow it.
abbrev pub split_at : ℕ → List ℕ → List SplitLine
split_at t [] = []
split_at t (b ∷ bs) = if b == t then ended [] ∷ split_at t bs else put_first b (split_at t bs)

-- The parts of a text from an offset on, where the first one begins there and has this number.
abbrev pub lines_from : ℕ → List ℕ → ℕ → ℕ → List TextLine
lines_from t text number start = numbered number start (split_at t (drop start text))

-- The bytes of a text at these offsets, as a line.
abbrev pub content_of : List ℕ → LineSpan → SplitLine
content_of text line = record { bytes = slice_range text line.start line.end; is_ended = line.is_ended }

-- These bytes as a line with its number and its offset.
abbrev pub line_of : List ℕ → LineSpan → TextLine
line_of text line = record { number = line.number; place = line.start; content = content_of text line }

-- The offset after a line and the byte that ends it.
abbrev pub whole_end : LineSpan → ℕ
whole_end line = if line.is_ended then line.end + 1 else line.end

-- A line is the first one from an offset on, and the others begin after it and the byte that ends it.
pub record IsLineAt (t : ℕ) (text : List ℕ) (number start : ℕ) (line : LineSpan) : Type 0 where
  pub numbered_so : line.number ≡ number
  pub starts : line.start ≡ start
  pub ordered : line.start ≤ line.end
  pub forward : line.start < whole_end line
  pub inside : line.end ≤ length text
  pub within : whole_end line ≤ length text
  pub split : split_at t (drop start text) ≡ content_of text line ∷ split_at t (drop (whole_end line) text)
  pub next : lines_from t text number start ≡ line_of text line ∷ lines_from t text (number + 1) (whole_end line)
