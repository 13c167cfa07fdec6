-- What is printed as JSON events for a text whose matches may span lines.
use Rattle.std.specs.Prelude.{ℕ, ◌+◌, ◌-◌, Bool, true, false, not, ◌&&◌, List, [], ◌∷◌, length, map, slice_range, if◌then◌else◌}
use Rattle.std.specs.List.{filter}
use Rattle.json_events.specs.Events.{as_line, begin_event}
use Rattle.json_events.specs.declared.elapsed.Elapsed.{Elapsed}
use Rattle.json_events.specs.declared.stats.Stats.{Stats}
use Rattle.regex_hir.specs.Re.{Re}
use Rattle.line_search.specs.Lines.{TextLine}
use Rattle.line_search.specs.Patterns.{spans_in}
use Rattle.line_search.specs.declared.patterns.PatternOptions.{PatternOptions}
use Rattle.grep_core.specs.Report.{roles_of}
use Rattle.grep_core.specs.Selecting.{limited}
use Rattle.grep_core.specs.declared.output_options.OutputOptions.{OutputOptions}
use Rattle.grep_core.specs.declared.role.Role.{Role}
use Rattle.grep_core.specs.declared.role.Role.TheVariants.{Selected, Beside, Hidden}
use Rattle.text_report.specs.Events.{EventItem, Printed, ended_events, line_past, printed, stats_of, tally, with_event}
use Rattle.text_report.specs.Records.{records_of}
use Rattle.text_report.specs.Touching.{content_end, has_match_of, part_at, touches_at}

-- ---- which lines are selected

-- Whether a line is selected, unless enough are: some match touches it, or with `invert` none does.
abbrev pub is_touched : OutputOptions → List (ℕ × ℕ) → TextLine → Bool
is_touched w found line = if w.invert then not (has_match_of false found line) else has_match_of false found line

-- For each line of a text, whether it is selected.
abbrev pub touched_lines : OutputOptions → List (ℕ × ℕ) → List ℕ → List Bool
touched_lines w found text = limited w.most (map (is_touched w found) (records_of w text))

-- ---- which lines are one event

-- Adjacent lines for which one event is printed: their role, the first and the last of them, and how many they are.
pub record EventLines : Type 0 where
  pub role : Role
  pub first : TextLine
  pub last : TextLine
  pub lines : ℕ

abbrev pub one_line : Role → TextLine → EventLines
one_line role line = record { role = role; first = line; last = line; lines = 1 }

-- These lines and the lines after them.
abbrev pub with_lines_after : EventLines → EventLines → EventLines
with_lines_after a b = record { role = a.role; first = a.first; last = b.last; lines = a.lines + b.lines }

abbrev pub is_selected : Role → Bool
is_selected Selected = true
is_selected Beside = false
is_selected Hidden = false

-- Whether the first of some lines is selected.
abbrev pub starts_selected : List Role → Bool
starts_selected [] = false
starts_selected (role ∷ roles) = is_selected role

-- Lines before other ones. If selected lines are joined, and these and the next ones are selected, one event is printed for both.
abbrev pub put_lines : Bool → EventLines → List EventLines → List EventLines
put_lines joins a [] = a ∷ []
put_lines joins a (b ∷ bs) = if joins && (is_selected a.role && is_selected b.role) then with_lines_after a b ∷ bs else a ∷ (b ∷ bs)

-- The lines of each event, given the roles of all lines.
abbrev pub event_lines : Bool → List Role → List TextLine → List EventLines
event_lines joins [] lines = []
event_lines joins (role ∷ roles) [] = []
event_lines joins (role ∷ roles) (line ∷ lines) = put_lines joins (one_line role line) (event_lines joins roles lines)

-- ---- events

-- The parts of matches that are between two offsets of a text. The lines there end at `end`, without the byte that ends the last one.
abbrev pub parts_between : List (ℕ × ℕ) → ℕ → ℕ → ℕ → List (ℕ × ℕ)
parts_between found start end past = map (part_at start end (past - start)) (filter (touches_at start end) found)

-- Lines of a text as an item. Its matches are those that touch the lines, of which the part in the lines counts.
abbrev pub lines_item : List (ℕ × ℕ) → List ℕ → EventLines → EventItem
lines_item found text a = record {
  number = a.first.number;
  place = a.first.place;
  bytes = slice_range text a.first.place (line_past a.last);
  found = parts_between found a.first.place (content_end a.last) (line_past a.last);
  lines = a.lines;
}

-- What is printed after the events of these lines, given what is an item for some lines.
abbrev pub with_all_lines : OutputOptions → List ℕ → (EventLines → EventItem) → List EventLines → Printed → Printed
with_all_lines w name item [] p = p
with_all_lines w name item (a ∷ rest) p = with_all_lines w name item rest (with_event w name a.role (item a) p)

-- What is printed for a text with these matches: the event at the beginning, and those of its lines. Adjacent selected lines are one event,
-- unless with `invert`, where matches don't join them.
abbrev pub printed_text : OutputOptions → List (ℕ × ℕ) → List ℕ → List ℕ → Printed
printed_text w found name text = with_all_lines w name (lines_item found text)
    (event_lines (not w.invert) (roles_of w (touched_lines w found text)) (records_of w text))
    (printed (as_line (begin_event name)) (tally 0 0 0))

-- The events of a text with this name. Its matches are those of the whole text, from left to right.
abbrev pub json_of_text : OutputOptions → PatternOptions → List Re → List ℕ → Elapsed → List ℕ → List ℕ
json_of_text w how res name time text = ended_events w name time (length text) (printed_text w (spans_in how res text) name text)

abbrev pub json_text_stats : OutputOptions → PatternOptions → List Re → List ℕ → Elapsed → List ℕ → Stats
json_text_stats w how res name time text = stats_of w time (length text) (printed_text w (spans_in how res text) name text)
