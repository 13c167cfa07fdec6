-- What is recorded about the files that were searched, and the exit status that it gives.
use Rattle.std.specs.Prelude.{◌≡◌, ℕ, Bool, true, false, ◌&&◌, ◌||◌, nat_lt, Result, Ok, Err, if◌then◌else◌}
use Rattle.line_search.specs.declared.fault.Fault.{Fault}
use Rattle.line_search.specs.declared.fault.Fault.TheVariants.{Read, Write, NoMemory, TooLong, TooLarge}
use Rattle.grep_core.specs.declared.separator_state.SeparatorState.{SeparatorState}
use Rattle.grep_core.specs.declared.separator_state.SeparatorState.TheVariants.{NonePrinted, EarlierPrinted}
use Rattle.grep_core.specs.declared.output_options.Print.{Print}
use Rattle.grep_cli.specs.Counting.{counted}
use Rattle.hirgrep_main.specs.Decisions.{prints_nothing}
use Rattle.json_events.specs.declared.stats.Stats.{Stats}
use Rattle.text_report.specs.Events.{no_stats}
use Rattle.hirgrep_main.specs.declared.results.outcome.Outcome.{Outcome}

-- The outcome before the first file.
abbrev pub no_outcome : Outcome
no_outcome = record {
  selected = false;
  printed = false;
  failed = false;
  ended = false;
  files = 0;
  bytes = 0;
  lines = 0;
  totals = no_stats;
}

-- The outcome after a failure.
abbrev pub with_failure : Outcome → Outcome
with_failure o = record o { failed = true }

-- The outcome after a file from which this many bytes were read.
abbrev pub with_file : Outcome → ℕ → Outcome
with_file o n = record o { files = counted o.files 1; bytes = counted o.bytes n }

-- The outcome with another sum of what was searched.
abbrev pub with_totals : Outcome → Stats → Outcome
with_totals o s = record o { totals = s }

-- The outcome after a file of which this many lines were selected.
abbrev pub with_lines : Outcome → ℕ → Outcome
with_lines o n = record o { selected = o.selected || nat_lt 0 n; lines = counted o.lines n }

-- Whether the fault is that output can't be written.
abbrev pub is_of_output : Fault → Bool
is_of_output (Read cause) = false
is_of_output (Write cause) = true
is_of_output NoMemory = false
is_of_output TooLong = false
is_of_output TooLarge = false

-- The outcome after a file whose search returned this. A selected line ends a search that prints nothing, and a failed write ends every
-- search.
abbrev pub after_result : Print → Outcome → Result ℕ Fault → Outcome
after_result print o (Ok n) = record (with_lines o n) { ended = o.ended || (nat_lt 0 n && prints_nothing print) }
after_result print o (Err fault) = record (with_failure o) { ended = o.ended || is_of_output fault }

-- The outcome after a file. It depends on how many bytes were read, on whether anything was printed, and on what the search returned.
abbrev pub after_search : Print → Outcome → ℕ → Bool → Result ℕ Fault → Outcome
after_search print o bytes wrote reported = after_result print (with_file (record o { printed = o.printed || wrote }) bytes) reported

-- Whether lines of earlier files were printed, so that a separator line precedes the first group of lines.
abbrev pub known_of : Outcome → SeparatorState
known_of o = if o.selected || o.printed then EarlierPrinted else NonePrinted

-- An outcome keeps what was recorded: a failure, a selected line, that something was printed, and the end of the search.
pub record Continues (old new : Outcome) : Type 0 where
  pub selected : old.selected ≡ true → new.selected ≡ true
  pub printed : old.printed ≡ true → new.printed ≡ true
  pub failed : old.failed ≡ true → new.failed ≡ true
  pub ended : old.ended ≡ true → new.ended ≡ true
