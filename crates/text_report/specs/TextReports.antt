-- What is printed for a text whose matches may span lines.
use Rattle.std.specs.Prelude.{ℕ, Bool, not, ◌&&◌, ◌||◌, nat_lt, List, [], map, if◌then◌else◌}
use Rattle.regex_hir.specs.Re.{Re}
use Rattle.line_search.specs.Lines.{TextLine, text_lines}
use Rattle.line_search.specs.Patterns.{spans_in}
use Rattle.line_search.specs.declared.patterns.PatternOptions.{PatternOptions}
use Rattle.grep_core.specs.ContextPrinting.{Item, item, print_item}
use Rattle.grep_core.specs.Report.{count_line, name_line, print_lines, roles_of}
use Rattle.grep_core.specs.Reporting.{counts_matches, matches_in, prints_lines, shown}
use Rattle.grep_core.specs.Selecting.{count_selected, limited}
use Rattle.grep_core.specs.declared.output_options.OutputOptions.{OutputOptions}
use Rattle.grep_core.specs.declared.output_options.Print.{Print}
use Rattle.grep_core.specs.declared.output_options.Print.TheVariants.{Lines, Matches, Count, CountMatches, NameIfAny, NameIfNone, Nothing}
use Rattle.grep_core.specs.declared.separator_state.SeparatorState.{SeparatorState}
use Rattle.text_report.specs.Touching.{has_match_of, parts_in}

-- If a line is printed for each of its matches, these are the matches that begin in it. A line in which none does isn't selected.
abbrev pub by_starts : OutputOptions → Bool
by_starts w = w.each_match && prints_lines w.print && not w.invert

-- Whether a line is selected, unless enough are: some match touches it, or with `invert` none does.
abbrev pub is_wanted_in : OutputOptions → List (ℕ × ℕ) → TextLine → Bool
is_wanted_in w found line = if w.invert then not (has_match_of (by_starts w) found line) else has_match_of (by_starts w) found line

-- For each line, whether it is selected.
abbrev pub selected_in : OutputOptions → List (ℕ × ℕ) → List TextLine → List Bool
selected_in w found lines = limited w.most (map (is_wanted_in w found) lines)

-- Whether the matches of a line are those that begin in it, and not all that touch it. If matches are counted, each counts for one line.
abbrev pub counts_begun : OutputOptions → Bool
counts_begun w = by_starts w || counts_matches w.print

-- A line and the parts of matches that are shown in it.
abbrev pub text_item : OutputOptions → Bool → List (ℕ × ℕ) → TextLine → Item
text_item w crlf found line = item line (parts_in (counts_begun w) crlf found line)

-- What is printed for lines with their matches, of which these are selected.
abbrev pub report_items : Print → OutputOptions → List ℕ → Bool → SeparatorState → List Bool → List Item → List ℕ
report_items Lines w name with_name known wanted items =
    print_lines w (print_item w (shown with_name name)) known (roles_of w wanted) items
report_items Matches w name with_name known wanted items =
    print_lines w (print_item w (shown with_name name)) known (roles_of w wanted) items
report_items Count w name with_name known wanted items = count_line w (shown with_name name) (count_selected wanted)
report_items CountMatches w name with_name known wanted items = count_line w (shown with_name name) (matches_in wanted items)
report_items NameIfAny w name with_name known wanted items = if nat_lt 0 (count_selected wanted) then name_line w name else []
report_items NameIfNone w name with_name known wanted items = if nat_lt 0 (count_selected wanted) then [] else name_line w name
report_items Nothing w name with_name known wanted items = []

-- What is printed for a text that has these matches.
abbrev pub report_found : OutputOptions → Bool → List ℕ → Bool → SeparatorState → List (ℕ × ℕ) → List ℕ → List ℕ
report_found w crlf name with_name known found text =
    report_items w.print w name with_name known (selected_in w found (text_lines text)) (map (text_item w crlf found) (text_lines text))

-- How many lines of a text are selected.
abbrev pub selected_in_found : OutputOptions → List (ℕ × ℕ) → List ℕ → ℕ
selected_in_found w found text = count_selected (selected_in w found (text_lines text))

-- What is printed for a text with its matches as they are. They are those of the whole text, from left to right.
abbrev pub report_as_it_is : OutputOptions → PatternOptions → List Re → List ℕ → Bool → SeparatorState → List ℕ → List ℕ
report_as_it_is w how res name with_name known text = report_found w how.crlf name with_name known (spans_in how res text) text

abbrev pub selected_as_it_is : OutputOptions → PatternOptions → List Re → List ℕ → ℕ
selected_as_it_is w how res text = selected_in_found w (spans_in how res text) text
