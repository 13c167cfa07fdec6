-- How parts of the output are marked for a terminal, in the way of GNU grep.
use Rattle.std.specs.Prelude.{ℕ, Bool, true, false, ◌&&◌, nat_lt, List, [], ◌∷◌, ◌++◌, codes, drop, slice_range, length, Option, Some, None, if◌then◌else◌}
use Rattle.grep_core.specs.declared.colors.Colors.{Colors}
use Rattle.grep_core.specs.declared.colors.Part.{Part}
use Rattle.grep_core.specs.declared.colors.Part.TheVariants.{Name, Number, Offset, Separator, SelectedLine, ContextLine, SelectedMatch, ContextMatch}
use Rattle.grep_core.specs.declared.role.Role.{Role}
use Rattle.grep_core.specs.declared.role.Role.TheVariants.{Selected}
use Rattle.line_search.specs.Lines.{without_return}

-- The text that sets the colour of a part.
abbrev pub code_of : Colors → Part → List ℕ
code_of c Name = c.names.now
code_of c Number = c.numbers.now
code_of c Offset = c.offsets.now
code_of c Separator = c.separators.now
code_of c SelectedLine = c.selected_lines.now
code_of c ContextLine = c.context_lines.now
code_of c SelectedMatch = c.selected_matches.now
code_of c ContextMatch = c.context_matches.now

-- Which part a line is, outside of its matches. If they are swapped, selected lines have the colour of context lines.
abbrev pub line_part : Bool → Role → Part
line_part false Selected = SelectedLine
line_part false _ = ContextLine
line_part true Selected = ContextLine
line_part true _ = SelectedLine

-- Which part a match in a line of this role is.
abbrev pub match_part : Role → Part
match_part Selected = SelectedMatch
match_part _ = ContextMatch

-- Whether a colour is set for a part.
abbrev pub has_color : Colors → Part → Bool
has_color c part = nat_lt 0 (length (code_of c part))

-- What follows each sequence: 27, `[K` erases the rest of the terminal's line.
abbrev pub erasing : Colors → List ℕ
erasing c = if c.erases then 27 ∷ codes "[K" else []

-- The sequence that sets the colour of a part, and the one that resets it. Without a colour there is none.
abbrev pub start_of : Colors → Part → List ℕ
start_of c part = if has_color c part then 27 ∷ (codes "[" ++ (code_of c part ++ (codes "m" ++ erasing c))) else []

abbrev pub end_of : Colors → Part → List ℕ
end_of c part = if has_color c part then 27 ∷ (codes "[m" ++ erasing c) else []

abbrev pub in_color : Colors → Part → List ℕ → List ℕ
in_color c part text = start_of c part ++ (text ++ end_of c part)

-- A part of the output, in its colour if parts are marked.
abbrev pub coloured : Option Colors → Part → List ℕ → List ℕ
coloured None part text = text
coloured (Some c) part text = in_color c part text

-- A text in the colour of a part, unless it is empty.
abbrev pub marked_text : Colors → Part → List ℕ → List ℕ
marked_text c part text = if nat_lt 0 (length text) then in_color c part text else []

-- The end of a line, in the colour of the line. A carriage return at its end isn't marked.
abbrev pub rest_of : Colors → Part → List ℕ → List ℕ
rest_of c part text = marked_text c part (without_return text) ++ drop (length (without_return text)) text

-- A text of a line from an offset on, of which these parts are the line and its matches. The matches are those after that offset. Before each
-- that isn't empty the line's colour is set anew. Matches may begin after a text that is the beginning of its line.
abbrev pub marked_from : Colors → Part → Part → List ℕ → ℕ → List (ℕ × ℕ) → List ℕ
marked_from c own match line at [] = rest_of c own (slice_range line at (length line))
marked_from c own match line at (s ∷ spans) =
    if nat_lt s.0 s.1 && nat_lt s.0 (length line)
    then start_of c own ++ (slice_range line at s.0 ++ (in_color c match (slice_range line s.0 s.1) ++ marked_from c own match line s.1 spans))
    else marked_from c own match line at spans
