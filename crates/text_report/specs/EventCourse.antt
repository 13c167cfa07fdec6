-- What is still to be printed for a text as JSON events, after some of its lines.
use Rattle.std.specs.Prelude.{◌≡◌, ℕ, ◌+◌, ◌<◌, ◌≤◌, Bool, true, false, not, ◌&&◌, List, [], ◌++◌, drop, length, map, take, Option, Some, None, IfSome, Result, IfOk, OnOk, option_map, if◌then◌else◌}
use Rattle.std.specs.Borrow.{Bor}
use Rattle.std.specs.Io.KnownBytes.{Appends}
use Rattle.std.specs.List.{position_or_len}
use Rattle.grep_core.specs.Report.{after_of, before_of, roles_of}
use Rattle.grep_core.specs.Reporting.{left_of, may_select}
use Rattle.grep_core.specs.Selecting.{limited, roles_from}
use Rattle.grep_core.specs.declared.output_options.OutputOptions.{OutputOptions}
use Rattle.grep_core.specs.declared.role.Role.{Role}
use Rattle.search_types.specs.declared.span.Span.{Span}
use Rattle.line_search.specs.LineMatchers.{LineMatcher, span_pair}
use Rattle.line_search.specs.Lines.{SplitLine, TextLine}
use Rattle.line_search.specs.Searchers.{SearchesFor, Sought, found_by}
use Rattle.line_search.specs.declared.fault.Fault.{Fault}
use Rattle.json_events.specs.Events.{as_line, begin_event}
use Rattle.json_events.specs.declared.elapsed.Elapsed.{Elapsed}
use Rattle.json_events.specs.declared.stats.Stats.{Stats}
use Rattle.text_report.specs.Events.{EventItem, Printed, ended_events, line_item, printed, shown_found, stats_of, tally}
use Rattle.text_report.specs.LineSpans.{line_of, lines_from, whole_end}
use Rattle.text_report.specs.TextEvents.{EventLines, event_lines, is_touched, lines_item, with_all_lines}
use Rattle.text_report.specs.Touching.{AreBefore, StartInOrder}
use Rattle.text_report.specs.declared.event_lines.EventProgress.{EventProgress}
use Rattle.text_report.specs.declared.event_lines.EventTask.{EventTask}
use Rattle.text_report.specs.declared.event_lines.Group.{Group}
use Rattle.text_report.specs.declared.events.Item.{Item}
use Rattle.text_report.specs.declared.turns.Turn.{Turn}

-- For each of these lines, whether it is selected, if n of the lines before them are.
abbrev pub flags_of : OutputOptions → LineMatcher → ℕ → List SplitLine → List Bool
flags_of w f n contents =
    limited (left_of w.most n) (map (λ it. if w.invert then not (f.has_match it) else f.has_match it) contents)

-- As a text whose matches may span lines.
abbrev pub touched_of : OutputOptions → List (ℕ × ℕ) → ℕ → List TextLine → List Bool
touched_of w found n lines = limited (left_of w.most n) (map (is_touched w found) lines)

-- Whether a line is selected, after n selected ones.
abbrev pub selects : OutputOptions → ℕ → Bool → Bool
selects w n has = (if w.invert then not has else has) && may_select w.most n

-- How many lines that aren't selected come before the next selected one, or before the end.
abbrev pub gap : List Bool → ℕ
gap flags = position_or_len (λ flag. flag) flags

-- The next selected line from this one on is known.
abbrev pub KnowsNext : List Bool → Turn → Type 0
KnowsNext flags turn = turn.next ≡ turn.index + gap (drop turn.index flags)

-- The roles of the lines that are left.
abbrev pub roles_left : OutputOptions → List Bool → Turn → List Role
roles_left w flags turn = roles_from (before_of w.context) (after_of w.context) turn.left (drop turn.index flags)

-- What is an item, with the matches that are shown of it.
pub record IsEventItem (w : OutputOptions) (role : Role) (item : Item) (it : EventItem) : Type 0 where
  pub number : item.number ≡ it.number
  pub place : item.place ≡ it.place
  pub bytes : item.bytes.now ≡ it.bytes
  pub found : map span_pair item.found.now ≡ shown_found w role it.found
  pub lines : item.lines ≡ it.lines

-- The lines of an event.
abbrev pub group_of : List ℕ → Group → EventLines
group_of text a = record { role = a.role; first = line_of text a.first; last = line_of text a.last; lines = a.lines }

-- A text of which events are printed.
abbrev pub task_with : Bor OutputOptions → Bor (List ℕ) → Bor (List ℕ) → Bor (List Bool) → Option (Bor (List Span)) → EventTask
task_with what name text flags found = record { what = what; name = name; text = text; flags = flags; found = found }

-- All matches of a text, or `None` if its lines are searched by themselves.
abbrev pub found_in : EventTask → Option (List (ℕ × ℕ))
found_in t = option_map (λ found. map span_pair found.now) t.found

-- Whether selected lines are joined.
abbrev pub joins_by : OutputOptions → Option (List (ℕ × ℕ)) → Bool
joins_by w None = false
joins_by w (Some found) = not w.invert

abbrev pub joins_lines : EventTask → Bool
joins_lines t = joins_by t.what.now (found_in t)

-- What is an item for lines of a text.
abbrev pub item_by : Option (List (ℕ × ℕ)) → LineMatcher → List ℕ → EventLines → EventItem
item_by None f text a = record (lines_item [] text a) { found = f.spans a.first.content }
item_by (Some found) f text a = lines_item found text a

abbrev pub item_of : EventTask → LineMatcher → EventLines → EventItem
item_of t f a = item_by (found_in t) f t.text.now a

-- The lines that are left, by their events. They begin at this offset.
abbrev pub groups_left : EventTask → Turn → ℕ → List EventLines
groups_left t turn at = event_lines (joins_lines t) (roles_left t.what.now t.flags.now turn)
    (lines_from t.what.now.terminator t.text.now (turn.index + 1) at)

-- What is printed in all, after what was printed for the lines before those that are left.
abbrev pub printed_left : EventTask → LineMatcher → EventProgress → Printed → Printed
printed_left t f p before = with_all_lines t.what.now t.name.now (item_of t f) (groups_left t p.turn p.at) before

-- The lines of an event are lines of this text.
pub record IsGroup (text : List ℕ) (a : Group) : Type 0 where
  pub first_ordered : a.first.start ≤ a.first.end
  pub first_inside : a.first.end ≤ length text
  pub ordered : a.last.start ≤ a.last.end
  pub inside : a.last.end ≤ length text
  pub forward : a.first.start < whole_end a.last
  pub within : whole_end a.last ≤ length text

-- What calls that take lines promise of what they took. It begins at this offset, its lines are lines of the text, and the next selected line
-- after it is known.
pub record TakesLines (t : EventTask) (new : Turn) (at : ℕ) (result : Result Group Fault) : Type 0 where
  pub starts : IfOk result (λ a. a.first.start ≡ at)
  pub lies : IfOk result (IsGroup t.text.now)
  pub known : OnOk result (KnowsNext t.flags.now new)

-- The matches of the text start one after the other.
abbrev pub AreOrdered : EventTask → Type 0
AreOrdered t = IfSome t.found (λ found. StartInOrder (map span_pair found.now))

-- The matches before this index are before each line from an offset on.
abbrev pub ArePast : EventTask → ℕ → ℕ → Type 0
ArePast t first at = IfSome t.found (λ found. AreBefore found.now first at)

-- Of these bytes the first ones were written, and the others are held. None is written before a line is printed: `end` is the offset after
-- the last line that is printed, or 0.
pub record IsHeld (start now : Option (List ℕ)) (all held : List ℕ) (written end : ℕ) : Type 0 where
  pub done : List ℕ
  pub appended : Appends start now done
  pub counted : written ≡ length done
  pub late : end ≡ 0 → done ≡ []
  pub are : all ≡ done ++ held

-- A prefix of these bytes was written.
pub record IsCutOff (start now : Option (List ℕ)) (all : List ℕ) (end : ℕ) : Type 0 where
  pub size : ℕ
  pub appended : Appends start now (take size all)
  pub late : end ≡ 0 → size ≡ 0

-- What was printed for some lines, of which the first bytes were written.
pub record ArePrinted (t : EventTask) (s : Sought) (start now : Option (List ℕ)) (begun held : List ℕ) (old new : EventProgress) : Type 0 where
  pub all : List ℕ
  pub are_held : IsHeld start now all held new.written new.counts.end
  pub far : 0 < new.counts.end → 0 < new.at
  pub goes_on : (by : SearchesFor s true) → AreOrdered t →
      printed_left t (found_by by) old (printed begun old.counts) ≡ printed_left t (found_by by) new (printed all new.counts)

-- A prefix of the events of a text was written.
abbrev pub WritesSome : EventTask → LineMatcher → Elapsed → EventProgress → List ℕ → Option (List ℕ) → Option (List ℕ) → Type 0
WritesSome t f time p begun old new = (n : ℕ) × Appends old new
    (take n (ended_events t.what.now t.name.now time (length t.text.now) (printed_left t f p (printed begun p.counts))))

-- What is printed for a text before the event at its end, and with it.
abbrev pub printed_all : EventTask → LineMatcher → Printed
printed_all t f = with_all_lines t.what.now t.name.now (item_of t f)
    (event_lines (joins_lines t) (roles_of t.what.now t.flags.now) (lines_from t.what.now.terminator t.text.now 1 0))
    (printed (as_line (begin_event t.name.now)) (tally 0 0 0))

abbrev pub all_events : EventTask → LineMatcher → Elapsed → List ℕ
all_events t f time = ended_events t.what.now t.name.now time (length t.text.now) (printed_all t f)

abbrev pub all_stats : EventTask → LineMatcher → Elapsed → Stats
all_stats t f time = stats_of t.what.now time (length t.text.now) (printed_all t f)
