-- What is printed for a text in memory as JSON events, and what its statistics are.
use Rattle.std.specs.Prelude.{ℕ, ◌+◌, Bool, List, [], ◌∷◌, ◌++◌, length, map, nat_lt, slice_range, Option, Some, None, if◌then◌else◌}
use Rattle.json_events.specs.Events.{begin_event, end_event, as_line, lines_event}
use Rattle.json_events.specs.declared.elapsed.Elapsed.{Elapsed}
use Rattle.json_events.specs.declared.events.Kind.{Kind}
use Rattle.json_events.specs.declared.events.Kind.TheVariants.{Match, Context}
use Rattle.json_events.specs.declared.stats.Stats.{Stats}
use Rattle.line_search.specs.LineMatchers.{LineMatcher}
use Rattle.line_search.specs.Lines.{TextLine}
use Rattle.grep_core.specs.Printing.{has_marks}
use Rattle.grep_core.specs.Report.{roles_of, selected}
use Rattle.grep_core.specs.Reporting.{may_select}
use Rattle.grep_core.specs.declared.output_options.OutputOptions.{OutputOptions}
use Rattle.grep_core.specs.declared.role.Role.{Role}
use Rattle.grep_core.specs.declared.role.Role.TheVariants.{Selected, Beside, Hidden}
use Rattle.text_report.specs.Records.{records_of}
use Rattle.text_report.specs.declared.events.Counts.{Counts}

-- What one event has: a line, or adjacent lines. The number of the first line, the offset of the first byte, the bytes with the byte that
-- ends each line, all matches as offsets in these bytes, and how many lines there are.
pub record EventItem : Type 0 where
  pub number : ℕ
  pub place : ℕ
  pub bytes : List ℕ
  pub found : List (ℕ × ℕ)
  pub lines : ℕ

-- The events so far, how many lines and matches they select, and the offset after the last line that is printed, or 0.
pub record Printed : Type 0 where
  pub bytes : List ℕ
  pub counts : Counts

abbrev pub printed : List ℕ → Counts → Printed
printed bytes counts = record { bytes = bytes; counts = counts }

abbrev pub tally : ℕ → ℕ → ℕ → Counts
tally lines matches end = record { lines = lines; matches = matches; end = end }

abbrev pub event_kind : Role → Kind
event_kind Selected = Match
event_kind _ = Context

-- The matches that an event for an item in this role has.
abbrev pub shown_found : OutputOptions → Role → List (ℕ × ℕ) → List (ℕ × ℕ)
shown_found w role found = if has_marks w role then found else []

abbrev pub event_of : OutputOptions → List ℕ → Role → EventItem → List ℕ
event_of w name role it = as_line (lines_event name (event_kind role) (if w.numbers then Some it.number else None) it.place it.bytes
    (shown_found w role it.found))

-- What is printed after an item in this role.
abbrev pub with_event : OutputOptions → List ℕ → Role → EventItem → Printed → Printed
with_event w name Hidden it p = p
with_event w name Beside it p =
    printed (p.bytes ++ event_of w name Beside it) (tally p.counts.lines p.counts.matches (it.place + length it.bytes))
with_event w name Selected it p =
    printed (p.bytes ++ event_of w name Selected it)
    (tally (p.counts.lines + it.lines) (p.counts.matches + length (shown_found w Selected it.found)) (it.place + length it.bytes))

-- What is printed after items in these roles.
abbrev pub with_events : OutputOptions → List ℕ → List Role → List EventItem → Printed → Printed
with_events w name [] items p = p
with_events w name (r ∷ rs) [] p = p
with_events w name (r ∷ rs) (it ∷ items) p = with_events w name rs items (with_event w name r it p)

-- What is printed for items of which these are selected: the event at the beginning, and those of the items.
abbrev pub printed_items : OutputOptions → List ℕ → List Bool → List EventItem → Printed
printed_items w name wanted items = with_events w name (roles_of w wanted) items (printed (as_line (begin_event name)) (tally 0 0 0))

abbrev pub no_stats : Stats
no_stats = record {
  elapsed = record { secs = 0; nanos = 0 };
  searches = 0;
  searches_with_match = 0;
  bytes_searched = 0;
  bytes_printed = 0;
  matched_lines = 0;
  matches = 0;
}

-- The statistics of a text of this size, of which something is printed. If enough lines are selected, bytes after the last line that is
-- printed aren't searched.
abbrev pub full_stats : OutputOptions → Elapsed → ℕ → Printed → Stats
full_stats w time size p = record {
  elapsed = time;
  searches = 1;
  searches_with_match = if nat_lt 0 p.counts.lines then 1 else 0;
  bytes_searched = if may_select w.most p.counts.lines then size else p.counts.end;
  bytes_printed = length p.bytes;
  matched_lines = p.counts.lines;
  matches = p.counts.matches;
}

-- The statistics of a text of which no line is printed count nothing.
abbrev pub stats_of : OutputOptions → Elapsed → ℕ → Printed → Stats
stats_of w time size p = if nat_lt 0 p.counts.end then full_stats w time size p else no_stats

-- With an event at the end. Of a text of which no line is printed there is no event.
abbrev pub ended_events : OutputOptions → List ℕ → Elapsed → ℕ → Printed → List ℕ
ended_events w name time size p =
    if nat_lt 0 p.counts.end then p.bytes ++ as_line (end_event name (full_stats w time size p)) else []

-- The offset after a line and the byte that ends it.
abbrev pub line_past : TextLine → ℕ
line_past line = line.place + length line.content.bytes + (if line.content.is_ended then 1 else 0)

-- A line of a text as an item.
abbrev pub line_item : LineMatcher → List ℕ → TextLine → EventItem
line_item f text line = record {
  number = line.number;
  place = line.place;
  bytes = slice_range text line.place (line_past line);
  found = f.spans line.content;
  lines = 1;
}

abbrev pub printed_lines : OutputOptions → LineMatcher → List ℕ → List ℕ → Printed
printed_lines w f name text =
    printed_items w name (selected w f (records_of w text)) (map (line_item f text) (records_of w text))

-- The events of a text with this name, whose matches are those of its lines.
abbrev pub json_report : OutputOptions → LineMatcher → List ℕ → Elapsed → List ℕ → List ℕ
json_report w f name time text = ended_events w name time (length text) (printed_lines w f name text)

abbrev pub json_stats : OutputOptions → LineMatcher → List ℕ → Elapsed → List ℕ → Stats
json_stats w f name time text = stats_of w time (length text) (printed_lines w f name text)
