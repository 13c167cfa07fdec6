-- What is still to be printed for an input after some of its lines, and how a task advances over some bytes.
use Rattle.std.specs.Prelude.{◌≡◌, ◌+◌, ◌≤◌, ℕ, List, [], ◌++◌, Option, Some, None, Result, OnOk, IfOk, IfErr, Vec, drop, length, take}
use Rattle.std.specs.declared.alloc.Global.{Global}
use Rattle.std.specs.Io.KnownBytes.{Appends}
use Rattle.grep_core.specs.declared.progress.Progress.{Progress}
use Rattle.grep_core.specs.declared.progress.Task.{Task}
use Rattle.grep_core.specs.ContextPrinting.{Waits}
use Rattle.line_search.specs.Lines.{SplitLine, TextLine, numbered, split_lines}
use Rattle.line_search.specs.LineMatchers.{LineMatcher, ShownLine}
use Rattle.line_search.specs.declared.fault.Fault.{Fault}
use Rattle.grep_core.specs.Report.{as_it_is, counted_as}
use Rattle.line_search.specs.Searchers.{Sought, SearchesFor, found_by}
use Rattle.grep_core.specs.Reporting.{needs_spans, with_needed_spans, still_reported, count_in_all}

-- The lines of an input, from the next line on.
abbrev pub next_lines : Progress → List SplitLine → List TextLine
next_lines p lines = numbered p.number p.place lines

abbrev pub reported_bytes : Task → LineMatcher → Progress → List SplitLine → List ℕ
reported_bytes t f p lines = still_reported t.what.now f t.name.now t.with_name p.telling (next_lines p lines)

abbrev pub counts_lines : Task → LineMatcher → Progress → List SplitLine → ℕ
counts_lines t f p lines = count_in_all t.what.now f p.telling (next_lines p lines)

-- The search finds what the patterns match, including spans if the task needs them.
abbrev pub SearchesBy : Task → Sought → Type 0
SearchesBy t s = SearchesFor s (needs_spans t.what.now)

abbrev pub finds_by : (t : Task) {s : Sought} → SearchesBy t s → LineMatcher
finds_by t by = with_needed_spans t.what.now (found_by by)

-- What each call that processes lines keeps. The finder still searches for `s`, and on success the buffered lines are as they may be.
pub record KeepsOn {A : Type 0} (t : Task) (s now : Sought) (new : Progress) (result : Result A Fault) : Type 0 where
  pub same : now ≡ s
  pub waits : OnOk result (Waits t.what.now new.telling.course)

-- A line of this many bytes is counted.
pub record PassesLine (old new : Progress) (len : ℕ) : Type 0 where
  pub number : new.number ≡ old.number + 1
  pub place : new.place ≡ old.place + len + 1
  pub telling : new.telling ≡ old.telling

-- The lines of `before` that aren't in `after` were processed, by a search for `s`. Whatever bytes follow, the output so far with what is
-- still to be printed after it is unchanged, and so is the number of selected lines.
pub record ReportsUpTo (t : Task) (s : Sought) (old new : Progress) (out now before after : List ℕ) : Type 0 where
  pub goes_on : (by : SearchesBy t s) (more : List ℕ) →
      out ++ reported_bytes t (finds_by t by) old (split_lines (before ++ more))
      ≡ now ++ reported_bytes t (finds_by t by) new (split_lines (after ++ more))
  pub counts : (by : SearchesBy t s) (more : List ℕ) →
      counts_lines t (finds_by t by) new (split_lines (after ++ more)) ≡ counts_lines t (finds_by t by) old (split_lines (before ++ more))

-- The output for some bytes was produced, and the bytes `after` are left.
pub record ReportsOn (t : Task) (f : LineMatcher) (reported : List ℕ) (old new : Progress) (before after : List ℕ) : Type 0 where
  pub printed : reported_bytes t f old (split_lines before) ≡ reported ++ reported_bytes t f new (split_lines after)
  pub counted : counts_lines t f new (split_lines after) ≡ counts_lines t f old (split_lines before)

-- The output for some bytes was produced and written.
pub record Writes (t : Task) (f : LineMatcher) (old new : Progress) (before after : List ℕ) (empty full : Option (List ℕ)) : Type 0 where
  pub reported : List ℕ
  pub written : Appends empty full reported
  pub on : ReportsOn t f reported old new before after

-- A reader that had `text` left has `rest` left. Some of it was read, and the output for what was processed was written.
pub record ReadsAndWrites (t : Task) (f : LineMatcher) (old new : Progress) (before after text : List ℕ)
    (left empty full : Option (List ℕ)) : Type 0 where
  pub rest : List ℕ
  pub is_left : left ≡ Some rest
  pub writes : Writes t f old new (before ++ text) (after ++ rest) empty full

-- A prefix of the output for an input was written.
abbrev pub WritesPart : Task → LineMatcher → Progress → List ℕ → Option (List ℕ) → Option (List ℕ) → Type 0
WritesPart t f p text empty full = (n : ℕ) × Appends empty full (take n (reported_bytes t f p (split_lines text)))

-- What a call that writes the output for the first lines of `read` promises. The finder still searches for `s`. `Ok` has the offset after
-- these lines: their output was written, whatever bytes follow, and the buffered lines are as they may be. On an error, a prefix of the output
-- was written.
pub record WritesFirstLines (t : Task) (s now : Sought) (old new : Progress) (read : List ℕ) (empty full : Option (List ℕ))
    (result : Result ℕ Fault) : Type 0 where
  pub same : now ≡ s
  pub waits : OnOk result (Waits t.what.now new.telling.course)
  pub within : IfOk result (λ done. done ≤ length read)
  pub writes : IfOk result (λ done. (by : SearchesBy t s) (more : List ℕ) →
      Writes t (finds_by t by) old new (read ++ more) (drop done read ++ more) empty full)
  pub fault : IfErr result (λ _. (by : SearchesBy t s) (more : List ℕ) → WritesPart t (finds_by t by) old (read ++ more) empty full)

-- The output for all that was left of an input was written, but for what is printed after all lines. The number of selected lines is right
-- as it is counted.
pub record WritesLast (t : Task) (f : LineMatcher) (old new : Progress) (text : List ℕ) (empty full : Option (List ℕ)) : Type 0 where
  pub reported : List ℕ
  pub written : Appends empty full reported
  pub printed : reported_bytes t f old (split_lines text) ≡ reported ++ reported_bytes t f new []
  pub counted : counted_as t.what.now.print (counts_lines t f new []) ≡ counted_as t.what.now.print (counts_lines t f old (split_lines text))

-- The next lines change neither what is printed nor the number that is counted, whatever they are.
pub record IsOver (t : Task) (p : Progress) : Type 0 where
  pub printed : (f : LineMatcher) (lines : List SplitLine) → reported_bytes t f p lines ≡ reported_bytes t f p []
  pub counted : (f : LineMatcher) (lines : List SplitLine) →
      counted_as t.what.now.print (counts_lines t f p lines) ≡ counted_as t.what.now.print (counts_lines t f p [])

-- ---- what is seen of a line
-- The bytes of a line as it is shown: other ones if there are some, and else its own.
abbrev pub bytes_or : Option (Vec ℕ Global) → List ℕ → List ℕ
bytes_or None bytes = bytes
bytes_or (Some other) bytes = other.items

-- A line with such bytes, and with these spans.
abbrev pub seen_line : Option (Vec ℕ Global) → List (ℕ × ℕ) → SplitLine → ShownLine
seen_line replaced found line = as_it_is (record line { bytes = bytes_or replaced line.bytes }) found
