-- What follows from the options, and from the outcome of the files.
use Rattle.std.specs.Prelude.{ℕ, Bool, true, false, not, ◌&&◌, ◌||◌, nat_eq, nat_lt, decimal, length, List, [], ◌∷◌, Option, Some, None, if◌then◌else◌}
use Rattle.line_search.specs.declared.patterns.PatternOptions.{PatternOptions}
use Rattle.grep_core.specs.declared.output_options.Print.{Print}
use Rattle.grep_core.specs.declared.output_options.Print.TheVariants.{Lines, Matches, Count, CountMatches, NameIfAny, NameIfNone, Nothing}
use Rattle.grep_core.specs.declared.output_options.OutputOptions.{OutputOptions}
use Rattle.grep_core.specs.Report.{first_of}
use Rattle.grep_core.specs.Reporting.{prints_lines}
use Rattle.grep_cli.specs.Counting.{counted}
use Rattle.hirgrep_main.specs.declared.options.asked.Asked.{Asked}
use Rattle.grep_cli.specs.Inputs.{is_by_lines, prints_json}
use Rattle.grep_cli.specs.declared.inputs.reading.Reading.{Reading}

-- ---- what is asked for

-- Nothing is printed, so the first selected line decides.
abbrev pub prints_nothing : Print → Bool
prints_nothing Lines = false
prints_nothing Matches = false
prints_nothing Count = false
prints_nothing CountMatches = false
prints_nothing NameIfAny = false
prints_nothing NameIfNone = false
prints_nothing Nothing = true

-- The names of files without a selected line are printed.
abbrev pub prints_names_if_none : Print → Bool
prints_names_if_none Lines = false
prints_names_if_none Matches = false
prints_names_if_none Count = false
prints_names_if_none CountMatches = false
prints_names_if_none NameIfAny = false
prints_names_if_none NameIfNone = true
prints_names_if_none Nothing = false

-- This number is the greatest number of lines that may be selected.
abbrev pub is_most : ℕ → Option ℕ → Bool
is_most n None = false
is_most n (Some most) = nat_eq most n

-- ---- what follows

-- Lines are printed whether any is selected or not.
abbrev pub prints_all : OutputOptions → Bool
prints_all what = prints_lines what.print && nat_lt 0 (first_of what.context)

-- Reading a file that is written at the same time could go on forever: lines are printed, and the first isn't the last one.
abbrev pub may_run_on : OutputOptions → Bool
may_run_on what = prints_lines what.print && not (is_most 1 what.most) || prints_all what

-- These patterns select no line, whatever it is: there is no pattern, or with -v the only one is empty. With -w and -x an empty pattern
-- doesn't match in every line.
abbrev pub wants_none : OutputOptions → PatternOptions → List (List ℕ) → Bool
wants_none what how [] = not what.invert
wants_none what how ([] ∷ []) = what.invert && not (how.lines || how.words)
wants_none what how ([] ∷ (p ∷ ps)) = false
wants_none what how ((c ∷ cs) ∷ ps) = false

-- No line can be selected, and nothing is printed whatever the inputs are, or counts of 0 alone. With --json the patterns don't decide it,
-- since what is searched is counted.
abbrev pub selects_none : Asked → List (List ℕ) → Bool
selects_none a patterns =
    (is_most 0 a.what.most || (not (prints_json a.reading) && wants_none a.what a.how patterns))
    && not (prints_names_if_none a.what.print || prints_all a.what)

-- The name of a file is printed once above its lines. Counts and names have none above them.
abbrev pub is_headed : Bool → Print → Bool
is_headed heading print = heading && prints_lines print

-- An input is read line by line, and there is no name above its lines.
abbrev pub is_plain : Reading → Bool → Print → Bool
is_plain reading heading print = is_by_lines reading && not (is_headed heading print)

-- ---- the outcome

-- The exit status. It is 0 if the search prints nothing and selected a line. Otherwise it is 2 after an error. Otherwise it is 0 if a line
-- was selected, and 1 if none was.
abbrev pub status : Print → Bool → Bool → ℕ
status print selected failed =
    if prints_nothing print && selected then 0
    else if failed then 2
    else if selected then 0
    else 1

-- How many digits the greatest offset and, if asked for, line number of a file of this size may have.
abbrev pub width_for : Bool → ℕ → ℕ
width_for numbers size = length (decimal (if numbers then counted size 1 else size))
