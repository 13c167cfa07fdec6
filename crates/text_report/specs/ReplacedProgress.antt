-- What is still to be printed for a text whose matches are replaced, after some of its lines.
use Rattle.std.specs.Prelude.{◌≡◌, ◌≤◌, ◌+◌, ◌++◌, ℕ, Bool, List, Option, Some, drop, length, map, take}
use Rattle.std.specs.Io.KnownBytes.{Appends}
use Rattle.std.specs.List.{filter, flat_map}
use Rattle.search_types.specs.declared.span.Span.{Span}
use Rattle.line_search.specs.LineMatchers.{span_pair}
use Rattle.line_search.specs.Lines.{TextLine}
use Rattle.grep_core.specs.ContextPrinting.{Item}
use Rattle.grep_core.specs.Reporting.{number_of, reported_lines}
use Rattle.grep_core.specs.declared.reporter.Reporter.{Reporter}
use Rattle.text_report.specs.EventCourse.{IsHeld, group_of, groups_left, task_with}
use Rattle.text_report.specs.LineSpans.{lines_from}
use Rattle.text_report.specs.ReplacedText.{begun_before, keeps_line, new_flags, new_item, new_items, past_lines, replaced_offset, spans_of}
use Rattle.text_report.specs.TextEvents.{EventLines, is_selected}
use Rattle.text_report.specs.TextProgress.{matches_of_task}
use Rattle.text_report.specs.Touching.{StartInOrder}
use Rattle.text_report.specs.declared.event_lines.Group.{Group}
use Rattle.text_report.specs.declared.replaced_lines.NewLines.{NewLines}
use Rattle.text_report.specs.declared.replacing.NewTask.{NewTask}
use Rattle.text_report.specs.declared.replacing.NewProgress.{NewProgress}
use Rattle.text_report.specs.declared.reporting.TextTask.{TextTask}
use Rattle.text_report.specs.declared.text_lines.TextPosition.{TextPosition}

-- What is still to be printed for items that are selected as the flags say.
abbrev pub reported_items : TextTask → Reporter → List Bool → List Item → List ℕ
reported_items t r flags items = reported_lines t.what.now.print t.what.now t.name.now t.with_name r.course (number_of t.what.now.print r) flags items

-- ---- lines of the replaced text

-- Which of these lines are printed.
abbrev pub kept_lines : NewLines → List TextLine → List TextLine
kept_lines a lines = filter (keeps_line a.task.what.now a.is_selected (matches_of_task a.task)) lines

abbrev pub kept_items : NewLines → List TextLine → List Item
kept_items a lines = map (new_item a.task.what.now a.task.crlf (matches_of_task a.task) a.place a.start) (kept_lines a lines)

abbrev pub kept_flags : NewLines → List TextLine → List Bool
kept_flags a lines = map (λ _. a.is_selected) (kept_items a lines)

-- The lines that are left.
abbrev pub new_left : NewLines → TextPosition → List TextLine
new_left a at = lines_from a.task.what.now.terminator a.task.text.now at.number at.place

-- The output for some lines of the replaced text was produced. Others follow, and then other items.
abbrev pub ReportsNew : NewLines → List TextLine → List TextLine → Reporter → Reporter → List ℕ → List ℕ → Type 0
ReportsNew a first rest old new before after = (flags : List Bool) (items : List Item) →
    before ++ reported_items a.task old (kept_flags a first ++ flags) (kept_items a first ++ items)
    ≡ after ++ reported_items a.task new (kept_flags a rest ++ flags) (kept_items a rest ++ items)

-- ---- lines of the text

-- The matches before this index begin before each offset from this one on.
pub record AreBegun (found : List Span) (first at : ℕ) : Type 0 where
  pub within : first ≤ length found
  pub counted : (later : ℕ) → at ≤ later →
      first + begun_before (map span_pair (drop first found)) later ≡ begun_before (map span_pair found) later

abbrev pub flags_for : NewTask → List EventLines → List Bool
flags_for t groups = flat_map (new_flags t.task.what.now t.task.crlf t.bytes.now (matches_of_task t.task) (map span_pair t.spans.now)) groups

abbrev pub items_for : NewTask → List EventLines → List Item
items_for t groups = flat_map (new_items t.task.what.now t.task.crlf t.bytes.now (matches_of_task t.task) (map span_pair t.spans.now)) groups

abbrev pub groups_to_come : NewTask → NewProgress → List EventLines
groups_to_come t p = groups_left (task_with t.task.what t.task.name t.task.text t.flags (Some t.task.found)) p.turn p.at

-- These are the lines that come of some lines of the text.
pub record AreLinesOf (t : NewTask) (a : Group) (lines : NewLines) : Type 0 where
  pub what : lines.task.what ≡ t.task.what
  pub name : lines.task.name ≡ t.task.name
  pub with_name : lines.task.with_name ≡ t.task.with_name
  pub crlf : lines.task.crlf ≡ t.task.crlf
  pub text : lines.task.text.now
      ≡ take (replaced_offset (matches_of_task t.task) (map span_pair t.spans.now) (past_lines (group_of t.task.text.now a))) t.bytes.now
  pub found : matches_of_task lines.task
      ≡ spans_of (matches_of_task t.task) (map span_pair t.spans.now) (group_of t.task.text.now a)
  pub ordered : StartInOrder (map span_pair t.spans.now) → StartInOrder (matches_of_task lines.task)
  pub place : lines.place ≡ a.first.start
  pub start : lines.start ≡ replaced_offset (matches_of_task t.task) (map span_pair t.spans.now) a.first.start
  pub selected : lines.is_selected ≡ is_selected a.role

-- What is still to be printed for these lines.
abbrev pub report_left : NewTask → Reporter → List EventLines → List ℕ
report_left t r groups = reported_items t.task r (flags_for t groups) (items_for t groups)

-- What was printed for some lines, of which the first bytes were written.
pub record WritesNew (t : NewTask) (start now : Option (List ℕ)) (held : List ℕ) (old new : NewProgress) : Type 0 where
  pub all : List ℕ
  pub are_held : IsHeld start now all held new.written 1
  pub printed : report_left t old.telling (groups_to_come t old) ≡ all ++ report_left t new.telling (groups_to_come t new)

-- A prefix of what is printed for the lines that are left was written.
abbrev pub WritesNewPart : NewTask → NewProgress → Option (List ℕ) → Option (List ℕ) → Type 0
WritesNewPart t p start now = (n : ℕ) × Appends start now (take n (report_left t p.telling (groups_to_come t p)))
