-- Which lines of a text its matches touch, and the part of a match that is in a line.
use Rattle.std.specs.Prelude.{◌≡◌, ◌≤◌, ℕ, ◌+◌, ◌-◌, Bool, ◌&&◌, nat_lt, nat_le, List, [], ◌∷◌, drop, length, map, max, min, if◌then◌else◌, ⊤}
use Rattle.std.specs.List.{filter, list_any}
use Rattle.search_types.specs.declared.span.Span.{Span}
use Rattle.line_search.specs.LineMatchers.{span_pair}
use Rattle.line_search.specs.Lines.{TextLine, searched}

-- A match begins in a line that is at these offsets, without the byte that ends it: at one of its bytes, at the byte that ends it, or at its
-- end if none does.
abbrev pub begins_between : ℕ → ℕ → ℕ × ℕ → Bool
begins_between start end s = nat_le start s.0 && nat_le s.0 end

-- A match touches such a line: one of its bytes is a byte of the line or the byte that ends it, or it is empty and begins in the line.
abbrev pub touches_at : ℕ → ℕ → ℕ × ℕ → Bool
touches_at start end s = if nat_lt s.0 s.1 then nat_le s.0 end && nat_lt start s.1 else begins_between start end s

-- Which matches count for such a line: those that begin in it, or those that touch it.
abbrev pub counts_at : Bool → ℕ → ℕ → ℕ × ℕ → Bool
counts_at begun start end s = if begun then begins_between start end s else touches_at start end s

-- The part of a match that is in such a line, as offsets in the line, of which so many bytes are searched.
abbrev pub part_at : ℕ → ℕ → ℕ → ℕ × ℕ → ℕ × ℕ
part_at start end size s =
    let first = min (s.0 - start) (end - start) in
    (first, max first (min (s.1 - start) size))

-- The offset after the bytes of a line.
abbrev pub content_end : TextLine → ℕ
content_end line = line.place + length line.content.bytes

-- Whether a match counts for a line.
abbrev pub counts_for : Bool → TextLine → ℕ × ℕ → Bool
counts_for begun line s = counts_at begun line.place (content_end line) s

-- The part of a match that is in a line. With `crlf`, a carriage return that belongs to the end of the line is in no part.
abbrev pub part_in : Bool → TextLine → ℕ × ℕ → ℕ × ℕ
part_in crlf line s = part_at line.place (content_end line) (length (searched crlf line.content)) s

-- Whether a line has a match of the text.
abbrev pub has_match_of : Bool → List (ℕ × ℕ) → TextLine → Bool
has_match_of begun found line = list_any (counts_for begun line) found

-- The parts of a text's matches that are in a line.
abbrev pub parts_in : Bool → Bool → List (ℕ × ℕ) → TextLine → List (ℕ × ℕ)
parts_in begun crlf found line = map (part_in crlf line) (filter (counts_for begun line) found)

-- ---- matches from left to right
abbrev pub NoneStartsBefore : ℕ → List (ℕ × ℕ) → Type 0
NoneStartsBefore low [] = ⊤
NoneStartsBefore low (s ∷ found) = (low ≤ s.0) × NoneStartsBefore low found

-- None of the matches starts before an earlier one.
abbrev pub StartInOrder : List (ℕ × ℕ) → Type 0
StartInOrder [] = ⊤
StartInOrder (s ∷ found) = NoneStartsBefore s.0 found × StartInOrder found

-- The matches before this index count for no line that starts at this offset or after it.
abbrev pub AreBefore : List Span → ℕ → ℕ → Type 0
AreBefore found first place = (begun : Bool) (start end : ℕ) → place ≤ start →
    filter (counts_at begun start end) (map span_pair found) ≡ filter (counts_at begun start end) (map span_pair (drop first found))
