-- What is printed for one input, and how many of its lines are counted.
use Rattle.std.specs.Prelude.{◌≡◌, ℕ, Bool, true, false, List, ◌++◌, take, Option, Result, IfErr, IfOk, OnOk}
use Rattle.std.specs.Io.KnownBytes.{Appends}
use Rattle.line_search.specs.declared.fault.Fault.{Fault}
use Rattle.grep_core.specs.declared.output_options.OutputOptions.{OutputOptions}
use Rattle.grep_core.specs.declared.separator_state.SeparatorState.TheVariants.{NonePrinted}
use Rattle.grep_core.specs.declared.separator_state.SeparatorState.{SeparatorState}
use Rattle.grep_core.specs.Headings.{heading, under}
use Rattle.regex_hir.specs.Re.{Re}
use Rattle.regex_syntax.specs.Grammar.{Names}
use Rattle.line_search.specs.LineMatchers.{LineMatcher}
use Rattle.line_search.specs.Patterns.{finds_of}
use Rattle.line_search.specs.Searchers.{SearchesFor, Sought}
use Rattle.line_search.specs.declared.patterns.PatternOptions.{PatternOptions}
use Rattle.grep_core.specs.Report.{counted_as, report, selected_count}
use Rattle.text_report.specs.Records.{report_records, selected_records}
use Rattle.text_report.specs.ReplacedText.{report_text, selected_in_text}
use Rattle.text_report.specs.Events.{json_report, json_stats}
use Rattle.text_report.specs.TextEvents.{json_of_text, json_text_stats}
use Rattle.grep_cli.specs.Inputs.{is_binary, searched_bytes}
use Rattle.hirgrep_main.specs.Binaries.{options_by}
use Rattle.hirgrep_main.specs.Decisions.{is_headed}
use Rattle.hirgrep_main.specs.Outcomes.{known_of}
use Rattle.hirgrep_main.specs.Totals.{no_time}
use Rattle.grep_cli.specs.declared.inputs.reading.Reading.{Reading}
use Rattle.grep_cli.specs.declared.inputs.reading.Reading.TheVariants.{Lines, Records, Text, Events, TextEvents}
use Rattle.hirgrep_main.specs.declared.results.outcome.Outcome.{Outcome}
use Rattle.hirgrep_main.specs.declared.task.Task.{Task}

-- The width of numbers depends on the input, and the other options don't.
abbrev pub options_in : Task → OutputOptions
options_in t = record t.asked.now.what { width = t.width }

-- The options for an input, given whether it is binary.
abbrev pub options_for : Task → Bool → OutputOptions
options_for t zero = options_by t.asked.now.binary zero (options_in t)

-- What patterns find: how they are interpreted, their trees, and the names of their groups.
pub record ReadPatterns : Type 0 where
  pub how : PatternOptions
  pub patterns : List Re
  pub names : List Names

abbrev pub patterns_by : {s : Sought} {spans : Bool} → SearchesFor s spans → ReadPatterns
patterns_by by = record { how = by.how; patterns = by.patterns; names = by.names }

-- What it finds in lines.
abbrev pub matcher : ReadPatterns → LineMatcher
matcher m = finds_of m.how m.names m.patterns

-- What is printed for the bytes of an input that is read so, and how many lines are counted.
abbrev pub body : Reading → OutputOptions → ReadPatterns → List ℕ → Bool → SeparatorState → List ℕ → List ℕ
body Lines w m name with_name known bytes = report w (matcher m) name with_name known bytes
body Records w m name with_name known bytes = report_records w (matcher m) name with_name known bytes
body Text w m name with_name known bytes = report_text w m.how m.names m.patterns name with_name known bytes
body Events w m name with_name known bytes = json_report w (matcher m) name no_time bytes
body TextEvents w m name with_name known bytes = json_of_text w m.how m.patterns name no_time bytes

abbrev pub body_count : Reading → OutputOptions → ReadPatterns → List ℕ → List ℕ → ℕ
body_count Lines w m name bytes = counted_as w.print (selected_count w (matcher m) bytes)
body_count Records w m name bytes = counted_as w.print (selected_records w (matcher m) bytes)
body_count Text w m name bytes = counted_as w.print (selected_in_text w m.how m.patterns bytes)
body_count Events w m name bytes = (json_stats w (matcher m) name no_time bytes).matched_lines
body_count TextEvents w m name bytes = (json_text_stats w m.how m.patterns name no_time bytes).matched_lines

-- What is printed for an input with this name and these bytes, after inputs with this outcome: what is printed for its bytes, under a heading
-- if there is one.
abbrev pub report_by : Reading → Bool → Task → OutputOptions → Outcome → ReadPatterns → List ℕ → List ℕ → List ℕ
report_by r true t w o m name bytes = under (heading w name t.with_name o.printed) (body r w m name false NonePrinted bytes)
report_by r false t w o m name bytes = body r w m name t.with_name (known_of o) bytes

-- What a beginning is printed of if it fails: if there is a heading, the heading and the report.
abbrev pub whole_report_by : Reading → Bool → Task → OutputOptions → Outcome → ReadPatterns → List ℕ → List ℕ → List ℕ
whole_report_by r true t w o m name bytes = heading w name t.with_name o.printed ++ body r w m name false NonePrinted bytes
whole_report_by r false t w o m name bytes = body r w m name t.with_name (known_of o) bytes

-- Whether an input has a heading, given whether it is binary.
abbrev pub has_heading_for : Task → Bool → Bool
has_heading_for t zero = is_headed t.asked.now.heading (options_for t zero).print

-- What is printed for these bytes, and how many lines are counted, given whether the input is binary.
abbrev pub report_for : Reading → Task → Bool → Outcome → ReadPatterns → List ℕ → List ℕ → List ℕ
report_for r t zero o m name bytes = report_by r (has_heading_for t zero) t (options_for t zero) o m name bytes

abbrev pub whole_report_for : Reading → Task → Bool → Outcome → ReadPatterns → List ℕ → List ℕ → List ℕ
whole_report_for r t zero o m name bytes = whole_report_by r (has_heading_for t zero) t (options_for t zero) o m name bytes

abbrev pub count_for : Reading → Task → Bool → ReadPatterns → List ℕ → List ℕ → ℕ
count_for r t zero m name bytes = body_count r (options_for t zero) m name bytes

-- What is printed for an input of these bytes, what a beginning is printed of if that fails, and how many lines are counted.
abbrev pub report_in : Task → Outcome → ReadPatterns → List ℕ → List ℕ → List ℕ
report_in t o m name text =
    report_for t.asked.now.reading t (is_binary text) o m name (searched_bytes t.asked.now.binary (is_binary text) text)

abbrev pub whole_report_in : Task → Outcome → ReadPatterns → List ℕ → List ℕ → List ℕ
whole_report_in t o m name text =
    whole_report_for t.asked.now.reading t (is_binary text) o m name (searched_bytes t.asked.now.binary (is_binary text) text)

abbrev pub count_of : Task → ReadPatterns → List ℕ → List ℕ → ℕ
count_of t m name text = count_for t.asked.now.reading t (is_binary text) m name (searched_bytes t.asked.now.binary (is_binary text) text)

-- What the search of an input wrote and returned: its report, and how many lines are counted. After an error, a beginning of the whole report
-- was written.
pub record IsInputReported (old new : Option (List ℕ)) (result : Result ℕ Fault) (all whole : List ℕ) (count : ℕ) : Type 0 where
  pub written : OnOk result (Appends old new all)
  pub counted : IfOk result (λ n. n ≡ count)
  pub part : IfErr result (λ _. (n : ℕ) × Appends old new (take n whole))
