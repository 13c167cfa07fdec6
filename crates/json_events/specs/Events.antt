-- Lines of an input, and what was searched, as JSON objects in the way of ripgrep.
use Rattle.std.specs.Prelude.{ℕ, ◌-◌, ◌/◌, List, [], ◌∷◌, ◌++◌, codes, decimal, length, replicate, slice_range, Option, Some, None, ◌&&◌, nat_le, if◌then◌else◌}
use Rattle.std.specs.List.{flat_map}
use Rattle.std.specs.Str.{is_utf8}
use Rattle.base64.specs.Engines.{standard}
use Rattle.base64.specs.GeneralPurpose.{encode_of}
use Rattle.json.specs.Print.{print}
use Rattle.json.specs.Token.{Token, begin_object, end_object, begin_array, end_array, key, string, number, null}
use Rattle.search_types.specs.declared.span.Span.{Span}
use Rattle.json_events.specs.declared.elapsed.Elapsed.{Elapsed}
use Rattle.json_events.specs.declared.events.Kind.{Kind}
use Rattle.json_events.specs.declared.events.Kind.TheVariants.{Match, Context}
use Rattle.json_events.specs.declared.stats.Stats.{Stats}

-- ---- tokens

abbrev pub object : List Token → List Token
object members = begin_object ∷ (members ++ end_object ∷ [])

abbrev pub array : List Token → List Token
array items = begin_array ∷ (items ++ end_array ∷ [])

abbrev pub text_value : List ℕ → List ℕ → List Token
text_value name text = key name ∷ string text ∷ []

abbrev pub number_value : List ℕ → ℕ → List Token
number_value name n = key name ∷ number (decimal n) ∷ []

abbrev pub null_value : List ℕ → List Token
null_value name = key name ∷ null ∷ []

-- What is in an object for bytes: the text that they are, or the bytes in base64 if they aren't UTF-8.
abbrev pub bytes_member : List ℕ → List Token
bytes_member bytes =
    if is_utf8 bytes then text_value (codes "text") bytes else text_value (codes "bytes") (encode_of standard bytes)

abbrev pub bytes_value : List ℕ → List Token
bytes_value bytes = object (bytes_member bytes)

-- An object as a line.
abbrev pub as_line : List Token → List ℕ
as_line tokens = print tokens ++ 10 ∷ []

-- The tokens of an event before its data.
abbrev pub event_start : List ℕ → List Token
event_start kind = begin_object ∷ (text_value (codes "type") kind ++ key (codes "data") ∷ begin_object ∷ [])

-- An event: its type, and an object with its data.
abbrev pub event : List ℕ → List Token → List Token
event kind members = object (text_value (codes "type") kind ++ key (codes "data") ∷ object members)

-- The name of an input.
abbrev pub path : List ℕ → List Token
path name = key (codes "path") ∷ bytes_value name

-- ---- lines

abbrev pub begin_event : List ℕ → List Token
begin_event name = event (codes "begin") (path name)

abbrev pub span_ends : Span → ℕ × ℕ
span_ends s = (s.start, s.end)

-- The bytes between two offsets, or none if that isn't a part of the text.
abbrev pub part : List ℕ → ℕ × ℕ → List ℕ
part text s = if nat_le s.0 s.1 && nat_le s.1 (length text) then slice_range text s.0 s.1 else []

-- A match: its bytes, and its two ends.
abbrev pub submatch : List ℕ → ℕ × ℕ → List Token
submatch text s = object (key (codes "match") ∷ (bytes_value (part text s)
    ++ (number_value (codes "start") s.0 ++ number_value (codes "end") s.1)))

abbrev pub submatches : List ℕ → List (ℕ × ℕ) → List Token
submatches text found = key (codes "submatches") ∷ array (flat_map (submatch text) found)

abbrev pub line_number : Option ℕ → List Token
line_number None = null_value (codes "line_number")
line_number (Some n) = number_value (codes "line_number") n

abbrev pub kind_name : Kind → List ℕ
kind_name Match = codes "match"
kind_name Context = codes "context"

-- What an event has of a line, or of adjacent lines, besides its matches: the bytes with each line feed, the number of the first line if it
-- is printed, and the offset of the first byte.
abbrev pub content : Option ℕ → ℕ → List ℕ → List Token
content first place bytes = key (codes "lines") ∷ (bytes_value bytes
    ++ (line_number first ++ number_value (codes "absolute_offset") place))

-- A line, or adjacent lines that are printed as one, with the matches that are shown, as offsets in the bytes.
abbrev pub lines_event : List ℕ → Kind → Option ℕ → ℕ → List ℕ → List (ℕ × ℕ) → List Token
lines_event name kind first place bytes found =
    event (kind_name kind) (path name ++ (content first place bytes ++ submatches bytes found))

-- ---- what was searched

-- A number below a million with six digits.
abbrev pub six_digits : ℕ → List ℕ
six_digits n = replicate (6 - length (decimal n)) 48 ++ decimal n

-- A time in seconds.
abbrev pub human : Elapsed → List ℕ
human t = decimal t.secs ++ (codes "." ++ (six_digits (t.nanos / 1000) ++ codes "s"))

abbrev pub elapsed : Elapsed → List Token
elapsed t = key (codes "elapsed") ∷ object (number_value (codes "secs") t.secs
    ++ (number_value (codes "nanos") t.nanos ++ text_value (codes "human") (human t)))

abbrev pub input_counts : Stats → List Token
input_counts s = number_value (codes "searches") s.searches ++ number_value (codes "searches_with_match") s.searches_with_match

abbrev pub search_counts : Stats → List Token
search_counts s = input_counts s
    ++ (number_value (codes "bytes_searched") s.bytes_searched ++ number_value (codes "bytes_printed") s.bytes_printed)

abbrev pub match_counts : Stats → List Token
match_counts s = number_value (codes "matched_lines") s.matched_lines ++ number_value (codes "matches") s.matches

abbrev pub statistics : Stats → List Token
statistics s = key (codes "stats") ∷ object (elapsed s.elapsed ++ (search_counts s ++ match_counts s))

abbrev pub end_event : List ℕ → Stats → List Token
end_event name s = event (codes "end") (path name ++ (null_value (codes "binary_offset") ++ statistics s))

-- In the summary, the parts are in the order of their names.
abbrev pub sorted_elapsed : List ℕ → Elapsed → List Token
sorted_elapsed name t = key name ∷ object (text_value (codes "human") (human t)
    ++ (number_value (codes "nanos") t.nanos ++ number_value (codes "secs") t.secs))

abbrev pub byte_counts : Stats → List Token
byte_counts s = number_value (codes "bytes_printed") s.bytes_printed ++ number_value (codes "bytes_searched") s.bytes_searched

abbrev pub sorted_statistics : Stats → List Token
sorted_statistics s = key (codes "stats") ∷ object (byte_counts s
    ++ (sorted_elapsed (codes "elapsed") s.elapsed ++ (match_counts s ++ input_counts s)))

abbrev pub summary_data : Stats → Elapsed → List Token
summary_data s total = object (sorted_elapsed (codes "elapsed_total") total ++ sorted_statistics s)

abbrev pub summary_event : Stats → Elapsed → List Token
summary_event s total = object (key (codes "data") ∷ (summary_data s total ++ text_value (codes "type") (codes "summary")))
