-- What is still to be printed for a text after some of its lines.
use Rattle.std.specs.Prelude.{◌≡◌, ◌+◌, ◌≤◌, ℕ, Bool, false, ◌++◌, List, [], Option, Result, IfOk, OnOk, length, map, take}
use Rattle.std.specs.Io.KnownBytes.{Appends}
use Rattle.line_search.specs.LineMatchers.{span_pair}
use Rattle.line_search.specs.Lines.{TextLine}
use Rattle.line_search.specs.declared.fault.Fault.{Fault}
use Rattle.grep_core.specs.ContextPrinting.{Waits}
use Rattle.grep_core.specs.Reporting.{left_of, number_of, reported_lines}
use Rattle.grep_core.specs.Selecting.{count_selected, limited}
use Rattle.grep_core.specs.declared.reporter.Reporter.{Reporter}
use Rattle.text_report.specs.LineSpans.{lines_from}
use Rattle.text_report.specs.TextReports.{is_wanted_in, text_item}
use Rattle.text_report.specs.Touching.{AreBefore}
use Rattle.text_report.specs.declared.reporting.TextProgress.{TextProgress}
use Rattle.text_report.specs.declared.reporting.TextTask.{TextTask}

-- The matches of the text.
abbrev pub matches_of_task : TextTask → List (ℕ × ℕ)
matches_of_task t = map span_pair t.found.now

-- The lines of the text that are left.
abbrev pub lines_left : TextTask → TextProgress → List TextLine
lines_left t p = lines_from 10 t.text.now p.at.number p.at.place

-- What calls that process lines leave unless they fail. The lines that are held are as they may be, the next line begins within the text, and
-- with `false` there is none.
pub record LeavesLines (t : TextTask) (new : TextProgress) (result : Result Bool Fault) : Type 0 where
  pub waits : OnOk result (Waits t.what.now new.telling.course)
  pub within : OnOk result (new.at.place ≤ length t.text.now)
  pub end : IfOk result (λ more. more ≡ false → lines_left t new ≡ [])

-- For each of these lines, whether it is selected, if so many of the lines before them are.
abbrev pub flags_left : TextTask → ℕ → List TextLine → List Bool
flags_left t n lines = limited (left_of t.what.now.most n) (map (is_wanted_in t.what.now (matches_of_task t)) lines)

abbrev pub reported_left : TextTask → Reporter → List TextLine → List ℕ
reported_left t r lines = reported_lines t.what.now.print t.what.now t.name.now t.with_name r.course (number_of t.what.now.print r)
    (flags_left t r.count lines) (map (text_item t.what.now t.crlf (matches_of_task t)) lines)

-- How many lines are selected in all.
abbrev pub count_left : TextTask → Reporter → List TextLine → ℕ
count_left t r lines = r.count + count_selected (flags_left t r.count lines)

-- The output for some lines was produced. The others follow.
pub record ReportsLines (t : TextTask) (old new : TextProgress) (before after : List ℕ) : Type 0 where
  pub printed : before ++ reported_left t old.telling (lines_left t old) ≡ after ++ reported_left t new.telling (lines_left t new)
  pub counted : count_left t new.telling (lines_left t new) ≡ count_left t old.telling (lines_left t old)
  pub are_before : AreBefore t.found.now new.at.first new.at.place

-- The output for some lines was produced and written.
pub record WritesTextLines (t : TextTask) (old new : TextProgress) (empty full : Option (List ℕ)) : Type 0 where
  pub reported : List ℕ
  pub written : Appends empty full reported
  pub printed : reported_left t old.telling (lines_left t old) ≡ reported ++ reported_left t new.telling (lines_left t new)
  pub counted : count_left t new.telling (lines_left t new) ≡ count_left t old.telling (lines_left t old)
  pub are_before : AreBefore t.found.now new.at.first new.at.place

-- A prefix of the output for the lines that are left was written.
abbrev pub WritesPrefix : TextTask → TextProgress → Option (List ℕ) → Option (List ℕ) → Type 0
WritesPrefix t p empty full = (n : ℕ) × Appends empty full (take n (reported_left t p.telling (lines_left t p)))
