-- What is printed for a text in memory whose lines end with the terminator of the options. With a zero byte they are called records.
use Rattle.std.specs.Prelude.{◌≡◌, ◌++◌, ◌<◌, ◌≤◌, ℕ, Bool, List, Option, drop, length, take}
use Rattle.std.specs.Io.KnownBytes.{Appends}
use Rattle.line_search.specs.LineMatchers.{LineMatcher}
use Rattle.line_search.specs.Lines.{SplitLine, TextLine, numbered}
use Rattle.line_search.specs.Searchers.{Sought}
use Rattle.grep_core.specs.Blocks.{SearchesBy, counts_lines, finds_by, reported_bytes}
use Rattle.grep_core.specs.Report.{report_as, selected}
use Rattle.grep_core.specs.Selecting.{count_selected}
use Rattle.grep_core.specs.declared.output_options.OutputOptions.{OutputOptions}
use Rattle.grep_core.specs.declared.progress.Progress.{Progress}
use Rattle.grep_core.specs.declared.progress.Task.{Task}
use Rattle.grep_core.specs.declared.separator_state.SeparatorState.{SeparatorState}
use Rattle.text_report.specs.LineSpans.{split_at}

-- The records of a text, each ended by the terminator. A last one without it is printed with one, too.
abbrev pub records_of : OutputOptions → List ℕ → List TextLine
records_of w text = numbered 1 0 (split_at w.terminator text)

-- What is printed for a text, with the name of its input before each line if asked for.
abbrev pub report_records : OutputOptions → LineMatcher → List ℕ → Bool → SeparatorState → List ℕ → List ℕ
report_records w f name with_name known text =
    report_as w.print w f name with_name known (records_of w text) (selected w f (records_of w text))

-- How many records of a text are selected.
abbrev pub selected_records : OutputOptions → LineMatcher → List ℕ → ℕ
selected_records w f text = count_selected (selected w f (records_of w text))

-- The records of a text from an offset on.
abbrev pub records_left : Task → List ℕ → ℕ → List SplitLine
records_left t text at = split_at t.what.now.terminator (drop at text)

-- The records of a text from `at` to `next`, one of them at least, were processed by a search for `s`. The output so far with what is still to
-- be printed after it is unchanged, and so is the number of selected records.
pub record ReportsRecords (t : Task) (s : Sought) (old new : Progress) (out now text : List ℕ) (at next : ℕ) : Type 0 where
  pub on : at < next
  pub within : next ≤ length text
  pub goes_on : (by : SearchesBy t s) →
      out ++ reported_bytes t (finds_by t by) old (records_left t text at)
      ≡ now ++ reported_bytes t (finds_by t by) new (records_left t text next)
  pub counts : (by : SearchesBy t s) →
      counts_lines t (finds_by t by) new (records_left t text next) ≡ counts_lines t (finds_by t by) old (records_left t text at)

-- A prefix of the output for some lines was written.
abbrev pub WritesBeginning : Task → LineMatcher → Progress → List SplitLine → Option (List ℕ) → Option (List ℕ) → Type 0
WritesBeginning t f p lines empty full = (n : ℕ) × Appends empty full (take n (reported_bytes t f p lines))
