-- How lines are printed, in the format of GNU grep.
use Rattle.std.specs.Prelude.{ℕ, zero, suc, ◌+◌, ◌-◌, ◌==◌, Bool, true, false, not, ◌&&◌, ◌||◌, nat_lt, List, [], ◌∷◌, ◌++◌, codes, decimal, drop, slice_range, length}
use Rattle.std.specs.Prelude.{count_by, get_or, map, Option, Some, None, is_some, option_map, replicate, take, unwrap_or, if◌then◌else◌}
use Rattle.std.specs.List.{flat_map}
use Rattle.grep_core.specs.Colors.{coloured, has_color, line_part, marked_from, match_part}
use Rattle.grep_core.specs.declared.colors.Colors.{Colors}
use Rattle.grep_core.specs.declared.colors.Part.{Part}
use Rattle.grep_core.specs.declared.colors.Part.TheVariants.{Name, Number, Offset, Separator}
use Rattle.grep_core.specs.declared.line.Line.{Line}
use Rattle.grep_core.specs.declared.role.Role.{Role}
use Rattle.grep_core.specs.declared.role.Role.TheVariants.{Selected}
use Rattle.grep_core.specs.declared.output_options.GroupSeparator.{GroupSeparator}
use Rattle.grep_core.specs.declared.output_options.GroupSeparator.TheVariants.{Hyphens, Given, Omitted}
use Rattle.grep_core.specs.declared.output_options.OutputOptions.{OutputOptions}
use Rattle.line_search.specs.Lines.{TextLine}

-- The separator after each field before a line: a colon for selected lines, a hyphen for others, unless it is given.
abbrev pub separator : OutputOptions → Role → List ℕ
separator w Selected = unwrap_or (option_map (λ t. t.now) w.match_separator) (codes ":")
separator w _ = unwrap_or (option_map (λ t. t.now) w.context_separator) (codes "-")

abbrev pub field : OutputOptions → Role → Part → List ℕ → List ℕ
field w role part text = coloured w.color part text ++ coloured w.color Separator (separator w role)

abbrev pub if_asked : Bool → List ℕ → List ℕ
if_asked true text = text
if_asked false text = []

-- A name and what follows it: a zero byte if that is asked for, and else these bytes.
abbrev pub name_before : OutputOptions → List ℕ → List ℕ → List ℕ
name_before w name other = coloured w.color Name name ++ (if w.zero_names then 0 ∷ [] else other)

abbrev pub name_field : OutputOptions → Role → Option (List ℕ) → List ℕ
name_field w role None = []
name_field w role (Some name) = name_before w name (coloured w.color Separator (separator w role))

-- A text of at least this many bytes: spaces precede a shorter one.
abbrev pub padded : ℕ → List ℕ → List ℕ
padded zero text = text
padded (suc n) text = replicate (suc n - length text) 32 ++ text

abbrev pub number_field : OutputOptions → Role → Part → ℕ → List ℕ
number_field w role part number = field w role part (padded w.width (decimal number))

-- The column of a match, counted in bytes from 1, if columns are asked for.
abbrev pub column_of : OutputOptions → ℕ × ℕ → Option ℕ
column_of w s = if w.columns then Some (s.0 + 1) else None

abbrev pub column_field : OutputOptions → Role → Option ℕ → List ℕ
column_field w role None = []
column_field w role (Some column) = number_field w role Number column

-- What is printed before a line, or before a match in it, whose first byte is at this offset. A match that is shown has a column.
abbrev pub fields : OutputOptions → Option (List ℕ) → Role → ℕ → Option ℕ → ℕ → List ℕ
fields w name role number column place =
    name_field w role name
    ++ (if_asked w.numbers (number_field w role Number number)
    ++ (column_field w role column
    ++ if_asked w.offsets (number_field w role Offset place)))

-- The tab between these fields and a text, if it is asked for. Without fields there is none, and before an empty text neither.
abbrev pub tab : OutputOptions → Option (List ℕ) → List ℕ → List ℕ
tab w name text =
    if w.initial_tab && (is_some name || w.numbers || w.offsets) && nat_lt 0 (length text) then 9 ∷ [] else []

-- A borrowed line.
abbrev pub text_line : Line → TextLine
text_line line = record { number = line.number; place = line.place; content = record { bytes = line.bytes.now; is_ended = line.is_ended } }

-- Whether a span isn't empty.
abbrev pub is_some_text : ℕ × ℕ → Bool
is_some_text s = nat_lt s.0 s.1

-- Matches are shown in lines that can have some: in selected lines, or with `invert` in context lines.
abbrev pub has_marks : OutputOptions → Role → Bool
has_marks w Selected = not w.invert
has_marks w _ = w.invert

-- Whether the output for a line depends on the matches in it.
abbrev pub shows_matches : OutputOptions → Bool
shows_matches w = is_some w.color || w.columns || w.each_match || is_some w.replacement

-- The matches that are shown in a line of this role that has these.
abbrev pub shown_matches : OutputOptions → Role → List (ℕ × ℕ) → List (ℕ × ℕ)
shown_matches w role found = if shows_matches w && has_marks w role then found else []

-- ASCII white space: the bytes from 9 to 13 and the space.
abbrev pub is_blank : ℕ → Bool
is_blank c = nat_lt 8 c && nat_lt c 14 || c == 32

-- How much white space a text begins with.
abbrev pub blanks : List ℕ → ℕ
blanks [] = 0
blanks (c ∷ text) = if is_blank c then suc (blanks text) else 0

-- How many bytes are left out at the beginning of a text, if that is asked for.
abbrev pub left_out : OutputOptions → List ℕ → ℕ
left_out w text = if w.trim then blanks text else 0

abbrev pub trimmed : OutputOptions → List ℕ → List ℕ
trimmed w text = drop (left_out w text) text

-- A span of a text of which so many bytes are left out at its beginning.
abbrev pub moved : ℕ → ℕ × ℕ → ℕ × ℕ
moved n s = (s.0 - n, s.1 - n)

-- A text of a line in which these matches are marked, if there are colours. Without a colour for matches the line has its own.
abbrev pub marked_line : Option Colors → Bool → Role → List (ℕ × ℕ) → List ℕ → List ℕ
marked_line None invert role found text = text
marked_line (Some c) invert role found text =
    marked_from c (line_part (invert && c.swaps) role) (match_part role) text 0 (if has_color c (match_part role) then found else [])

-- The bytes of a line of this role, in which these matches are shown.
abbrev pub line_bytes : OutputOptions → Role → List (ℕ × ℕ) → List ℕ → List ℕ
line_bytes w role found line = marked_line w.color w.invert role (map (moved (left_out w line)) found) (trimmed w line)

-- Whether a text has more bytes than may be printed.
abbrev pub exceeds : Option ℕ → ℕ → Bool
exceeds None n = false
exceeds (Some most) n = nat_lt most n

-- A line counts with its line feed.
abbrev pub is_long : OutputOptions → TextLine → Bool
is_long w line = exceeds w.most_bytes (length line.content.bytes + (if line.content.is_ended then 1 else 0))

-- What is printed instead of a line that is too long, if no match is shown in it.
abbrev pub omitted_line : Role → List ℕ
omitted_line Selected = codes "[Omitted long matching line]"
omitted_line _ = codes "[Omitted long context line]"

-- What is printed instead of a line that is too long, with so many matches that are shown in it.
abbrev pub omission : Role → ℕ → List ℕ
omission role count =
    if nat_lt 0 count then codes "[Omitted long line with " ++ (decimal count ++ codes " matches]") else omitted_line role

-- The bytes of a character after its first one.
abbrev pub is_inner : ℕ → Bool
is_inner b = nat_lt 127 b && nat_lt b 192

-- The greatest offset up to this one that isn't inside a character.
abbrev pub cut_at : List ℕ → ℕ → ℕ
cut_at text zero = zero
cut_at text (suc n) = if is_inner (get_or text (suc n) 0) then cut_at text n else suc n

-- The beginning of a text that is too long: whole characters.
abbrev pub front : OutputOptions → List ℕ → List ℕ
front w text = take (cut_at text (unwrap_or w.most_bytes 0)) text

-- What follows the beginning of a line, if this number of matches begins after it.
abbrev pub more_note : ℕ → List ℕ
more_note count = codes " [... " ++ (decimal count ++ (if count == 1 then codes " more match]" else codes " more matches]"))

-- What follows the first n bytes of a line in which these matches are shown.
abbrev pub end_note : List (ℕ × ℕ) → ℕ → List ℕ
end_note [] n = codes " [... omitted end of long line]"
end_note (s ∷ shown) n = more_note (count_by (λ s. not (nat_lt s.0 n)) (s ∷ shown))

-- The beginning of a line and what follows it. In the beginning, the marks are shown.
abbrev pub preview_text : OutputOptions → Option (List ℕ) → Role → List ℕ → List (ℕ × ℕ) → List (ℕ × ℕ) → List ℕ
preview_text w name role line marks shown =
    tab w name (end_note shown (length (front w line)))
    ++ (line_bytes w role marks (front w line) ++ (end_note shown (length (front w line)) ++ w.terminator ∷ []))

abbrev pub omitted_text : OutputOptions → Option (List ℕ) → Role → ℕ → List ℕ
omitted_text w name role count = tab w name (omission role count) ++ (omission role count ++ w.terminator ∷ [])

-- What is printed after the fields of a line that is too long.
abbrev pub long_text : OutputOptions → Option (List ℕ) → Role → List ℕ → List (ℕ × ℕ) → List (ℕ × ℕ) → List ℕ
long_text w name role line marks shown =
    if w.preview then preview_text w name role line marks shown else omitted_text w name role (length shown)

-- A line after its fields, with these of the matches that are shown in it marked.
abbrev pub line_text : OutputOptions → Option (List ℕ) → Role → TextLine → List (ℕ × ℕ) → List (ℕ × ℕ) → List ℕ
line_text w name role line marks shown =
    if is_long w line then long_text w name role line.content.bytes marks shown
    else tab w name (trimmed w line.content.bytes) ++ (line_bytes w role marks line.content.bytes ++ w.terminator ∷ [])

-- The column of the first match.
abbrev pub first_column : OutputOptions → List (ℕ × ℕ) → Option ℕ
first_column w [] = None
first_column w (s ∷ spans) = column_of w s

-- A line that is printed once, with these matches shown in it.
abbrev pub printed_once : OutputOptions → Option (List ℕ) → Role → TextLine → List (ℕ × ℕ) → List ℕ
printed_once w name role line shown =
    fields w name role line.number (first_column w shown) line.place ++ line_text w name role line shown shown

-- A line that is printed for one of the matches that are shown in it.
abbrev pub printed_for : OutputOptions → Option (List ℕ) → Role → TextLine → List (ℕ × ℕ) → ℕ × ℕ → List ℕ
printed_for w name role line shown s =
    fields w name role line.number (column_of w s) (line.place + s.0) ++ line_text w name role line (s ∷ []) shown

abbrev pub printed_with : OutputOptions → Option (List ℕ) → Role → TextLine → List (ℕ × ℕ) → List ℕ
printed_with w name role line shown =
    if w.each_match && nat_lt 0 (length shown) then flat_map (printed_for w name role line shown) shown
    else printed_once w name role line shown

-- A line that has these matches.
abbrev pub printed_line : OutputOptions → Option (List ℕ) → Role → TextLine → List (ℕ × ℕ) → List ℕ
printed_line w name role line found = printed_with w name role line (shown_matches w role found)

-- The bytes of a match, unless it is empty.
abbrev pub match_bytes : OutputOptions → Role → List ℕ → List ℕ
match_bytes w role text = if nat_lt 0 (length text) then coloured w.color (match_part role) text else []

-- What is printed after the fields of a match that is too long.
abbrev pub long_match : OutputOptions → Option (List ℕ) → Role → List ℕ → List ℕ
long_match w name role text =
    if w.preview then tab w name (more_note 0) ++ (match_bytes w role (trimmed w (front w text)) ++ (more_note 0 ++ w.terminator ∷ []))
    else omitted_text w name role 0

-- The bytes of a match after its fields.
abbrev pub match_text : OutputOptions → Option (List ℕ) → Role → List ℕ → List ℕ
match_text w name role text =
    if exceeds w.most_bytes (length text) then long_match w name role text
    else tab w name (trimmed w text) ++ (match_bytes w role (trimmed w text) ++ w.terminator ∷ [])

-- Whether a match, or what replaces it, is printed as a line of its own. An empty match isn't, but what replaces a match is, even if it is
-- empty.
abbrev pub is_printed : OutputOptions → ℕ × ℕ → Bool
is_printed w s = is_some_text s || is_some w.replacement

-- A match in a line of this role, printed as a line of its own.
abbrev pub printed_match : OutputOptions → Option (List ℕ) → Role → TextLine → ℕ × ℕ → List ℕ
printed_match w name role line s =
    if is_printed w s
    then fields w name role line.number (column_of w s) (line.place + s.0)
    ++ match_text w name role (slice_range line.content.bytes s.0 s.1)
    else []

-- The matches of a line, printed if they would be shown in a line of this role.
abbrev pub printed_matches : OutputOptions → Option (List ℕ) → Role → TextLine → List (ℕ × ℕ) → List ℕ
printed_matches w name role line found = if has_marks w role then flat_map (printed_match w name role line) found else []

-- The text of the line that separates groups of lines, if there is such a line.
abbrev pub group_text : GroupSeparator → Option (List ℕ)
group_text Hyphens = Some (codes "--")
group_text (Given text) = Some text.now
group_text Omitted = None

-- The separator line of this text.
abbrev pub separator_line : OutputOptions → Option (List ℕ) → List ℕ
separator_line w None = []
separator_line w (Some text) = coloured w.color Separator text ++ 10 ∷ []

-- What is between two groups of lines that aren't adjacent.
abbrev pub group_line : OutputOptions → List ℕ
group_line w = separator_line w (group_text w.groups)
