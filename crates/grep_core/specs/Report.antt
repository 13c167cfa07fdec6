-- What is printed for an input, for any choice of wanted lines and any spans as the matches of a line.
use Rattle.std.specs.Prelude.{ℕ, ◌+◌, Bool, true, false, not, nat_lt, length, List, [], ◌∷◌, ◌++◌, map, decimal, codes, Option, Some, None, is_some, if◌then◌else◌}
use Rattle.std.specs.Borrow.{Bor}
use Rattle.grep_core.specs.declared.output_options.Context.{Context}
use Rattle.grep_core.specs.declared.output_options.Print.TheVariants.{Lines, Matches, Count, CountMatches, NameIfAny, NameIfNone, Nothing}
use Rattle.grep_core.specs.declared.output_options.Print.{Print}
use Rattle.grep_core.specs.declared.separator_state.SeparatorState.{SeparatorState}
use Rattle.grep_core.specs.declared.separator_state.SeparatorState.TheVariants.{NonePrinted, LastPrinted, EarlierPrinted}
use Rattle.grep_core.specs.declared.output_options.OutputOptions.{OutputOptions}
use Rattle.line_search.specs.Lines.{SplitLine, TextLine, text_lines}
use Rattle.grep_core.specs.declared.role.Role.{Role}
use Rattle.grep_core.specs.declared.role.Role.TheVariants.{Selected, Beside, Hidden}
use Rattle.grep_core.specs.Selecting.{limited, count_selected, roles}
use Rattle.grep_core.specs.Colors.{coloured}
use Rattle.grep_core.specs.declared.colors.Part.TheVariants.{Separator}
use Rattle.grep_core.specs.Printing.{printed_line, printed_matches, group_line, name_before}
use Rattle.line_search.specs.LineMatchers.{ShownLine, LineMatcher}

-- A line that is shown as it is, with these matches.
abbrev pub as_it_is : SplitLine → List (ℕ × ℕ) → ShownLine
as_it_is line found = record { content = line; spans = found }

-- What is shown of a line: the line itself, or if there is a template, the line with its matches replaced.
abbrev pub shown_by : Option (Bor (List ℕ)) → LineMatcher → SplitLine → ShownLine
shown_by None f line = as_it_is line (f.spans line)
shown_by (Some template) f line = f.replaced template.now line

abbrev pub shown_of : OutputOptions → LineMatcher → SplitLine → ShownLine
shown_of w f line = shown_by w.replacement f line

-- A line as it is shown. Its number and its offset are those that it has in the input.
abbrev pub shown_line : OutputOptions → LineMatcher → TextLine → TextLine
shown_line w f line = record line { content = (shown_of w f line.content).content }

abbrev pub shown_spans : OutputOptions → LineMatcher → TextLine → List (ℕ × ℕ)
shown_spans w f line = (shown_of w f line.content).spans

abbrev pub is_wanted : OutputOptions → LineMatcher → TextLine → Bool
is_wanted w f line = if w.invert then not (f.has_match line.content) else f.has_match line.content

-- For each line, whether it is selected.
abbrev pub selected : OutputOptions → LineMatcher → List TextLine → List Bool
selected w f lines = limited w.most (map (is_wanted w f) lines)

-- How many context lines are printed before each selected line (`before_of`), after it (`after_of`) and at the beginning (`first_of`).
abbrev pub before_of : Option Context → ℕ
before_of None = 0
before_of (Some c) = c.before

abbrev pub after_of : Option Context → ℕ
after_of None = 0
after_of (Some c) = c.after

abbrev pub first_of : Option Context → ℕ
first_of None = 0
first_of (Some c) = c.first

abbrev pub roles_of : OutputOptions → List Bool → List Role
roles_of w wanted = roles (before_of w.context) (after_of w.context) (first_of w.context) wanted

-- What is known after a line that isn't printed.
abbrev pub after_hidden : SeparatorState → SeparatorState
after_hidden NonePrinted = NonePrinted
after_hidden _ = EarlierPrinted

-- If context is asked for, a line separates groups of lines that aren't adjacent.
abbrev pub parting : OutputOptions → SeparatorState → List ℕ
parting w EarlierPrinted = if is_some w.context then group_line w else []
parting w _ = []

-- The output for lines with these roles, where `print` gives the output for each printed line.
abbrev pub print_lines : {X : Type 0} → OutputOptions → (Role → X → List ℕ) → SeparatorState → List Role → List X → List ℕ
print_lines w print before [] lines = []
print_lines w print before (r ∷ rs) [] = []
print_lines w print before (Hidden ∷ rs) (line ∷ lines) = print_lines w print (after_hidden before) rs lines
print_lines w print before (Selected ∷ rs) (line ∷ lines) =
    parting w before ++ (print Selected line ++ print_lines w print LastPrinted rs lines)
print_lines w print before (Beside ∷ rs) (line ∷ lines) =
    parting w before ++ (print Beside line ++ print_lines w print LastPrinted rs lines)

-- The count as a line, after the name of the input and a colon if there is one.
abbrev pub count_line : OutputOptions → Option (List ℕ) → ℕ → List ℕ
count_line w None n = decimal n ++ 10 ∷ []
count_line w (Some name) n = name_before w name (coloured w.color Separator (codes ":")) ++ (decimal n ++ 10 ∷ [])

-- How many matches the selected lines have.
abbrev pub count_matches : OutputOptions → LineMatcher → List TextLine → List Bool → ℕ
count_matches w f [] wanted = 0
count_matches w f (line ∷ lines) [] = 0
count_matches w f (line ∷ lines) (true ∷ wanted) = length (shown_spans w f line) + count_matches w f lines wanted
count_matches w f (line ∷ lines) (false ∷ wanted) = count_matches w f lines wanted

abbrev pub name_line : OutputOptions → List ℕ → List ℕ
name_line w name = name_before w name (10 ∷ [])

-- What is printed for the input with this name. If asked for, the name precedes each line. What is known before the first line of this
-- input is what is known of the lines of earlier inputs.
abbrev pub report_as : Print → OutputOptions → LineMatcher → List ℕ → Bool → SeparatorState → List TextLine → List Bool → List ℕ
report_as Lines w f name with_name known lines wanted =
    print_lines w (λ role line. printed_line w (if with_name then Some name else None) role (shown_line w f line) (shown_spans w f line)) known
    (roles_of w wanted) lines
report_as Matches w f name with_name known lines wanted =
    print_lines w (λ role line. printed_matches w (if with_name then Some name else None) role (shown_line w f line) (shown_spans w f line)) known
    (roles_of w wanted) lines
report_as Count w f name with_name known lines wanted = count_line w (if with_name then Some name else None) (count_selected wanted)
report_as CountMatches w f name with_name known lines wanted =
    count_line w (if with_name then Some name else None) (count_matches w f lines wanted)
report_as NameIfAny w f name with_name known lines wanted = if nat_lt 0 (count_selected wanted) then name_line w name else []
report_as NameIfNone w f name with_name known lines wanted = if nat_lt 0 (count_selected wanted) then [] else name_line w name
report_as Nothing w f name with_name known lines wanted = []

abbrev pub report : OutputOptions → LineMatcher → List ℕ → Bool → SeparatorState → List ℕ → List ℕ
report w f name with_name known text = report_as w.print w f name with_name known (text_lines text) (selected w f (text_lines text))

-- How many lines of the input are selected.
abbrev pub selected_count : OutputOptions → LineMatcher → List ℕ → ℕ
selected_count w f text = count_selected (selected w f (text_lines text))

-- The number that is counted for this many selected lines. It is at most 1 if all that is asked for is whether there is one.
abbrev pub counted_as : Print → ℕ → ℕ
counted_as Lines n = n
counted_as Matches n = n
counted_as Count n = n
counted_as CountMatches n = n
counted_as NameIfAny n = if nat_lt 0 n then 1 else 0
counted_as NameIfNone n = if nat_lt 0 n then 1 else 0
counted_as Nothing n = if nat_lt 0 n then 1 else 0
