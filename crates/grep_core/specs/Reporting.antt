-- What is still to be printed for an input, after its first lines.
use Rattle.std.specs.Prelude.{ℕ, ◌+◌, ◌-◌, Bool, true, false, ◌&&◌, nat_lt, length, List, [], ◌∷◌, map, Option, Some, None, option_map, is_some, not, if◌then◌else◌}
use Rattle.grep_core.specs.declared.context_printer.ContextPrinter.{ContextPrinter}
use Rattle.grep_core.specs.declared.reporter.Reporter.{Reporter}
use Rattle.grep_core.specs.declared.output_options.Print.{Print}
use Rattle.grep_core.specs.declared.output_options.Print.TheVariants.{Lines, Matches, Count, CountMatches, NameIfAny, NameIfNone, Nothing}
use Rattle.grep_core.specs.declared.output_options.OutputOptions.{OutputOptions}
use Rattle.grep_core.specs.ContextPrinting.{Item, item, still}
use Rattle.line_search.specs.Lines.{TextLine}
use Rattle.grep_core.specs.Printing.{shows_matches}
use Rattle.line_search.specs.LineMatchers.{LineMatcher}
use Rattle.grep_core.specs.Report.{as_it_is, is_wanted, count_line, name_line, shown_line, shown_spans}
use Rattle.grep_core.specs.Selecting.{limited, count_selected}

-- The name that is printed before lines, if any.
abbrev pub shown : Bool → List ℕ → Option (List ℕ)
shown with_name name = if with_name then Some name else None

-- A line as it is shown, with what is marked in it.
abbrev pub reported_item : OutputOptions → LineMatcher → TextLine → Item
reported_item w f line = item (shown_line w f line) (shown_spans w f line)

-- Whether the output consists of lines or of the matches in them.
abbrev pub prints_lines : Print → Bool
prints_lines Lines = true
prints_lines Matches = true
prints_lines Count = false
prints_lines CountMatches = false
prints_lines NameIfAny = false
prints_lines NameIfNone = false
prints_lines Nothing = false

-- How many matches the selected ones of some lines have.
abbrev pub matches_in : List Bool → List Item → ℕ
matches_in [] items = 0
matches_in (flag ∷ flags) [] = 0
matches_in (true ∷ flags) (it ∷ items) = length it.found + matches_in flags items
matches_in (false ∷ flags) (it ∷ items) = matches_in flags items

-- What is still to be printed for lines that are selected as the flags say. The lines before them have counted n: each selected one is
-- one, or as many as it has matches.
abbrev pub reported_lines : Print → OutputOptions → List ℕ → Bool → ContextPrinter → ℕ → List Bool → List Item → List ℕ
reported_lines Lines w name with_name c n flags items = still w (shown with_name name) c flags items
reported_lines Matches w name with_name c n flags items = still w (shown with_name name) c flags items
reported_lines Count w name with_name c n flags items = count_line w (shown with_name name) (n + count_selected flags)
reported_lines CountMatches w name with_name c n flags items = count_line w (shown with_name name) (n + matches_in flags items)
reported_lines NameIfAny w name with_name c n flags items = if nat_lt 0 (n + count_selected flags) then name_line w name else []
reported_lines NameIfNone w name with_name c n flags items = if nat_lt 0 (n + count_selected flags) then [] else name_line w name
reported_lines Nothing w name with_name c n flags items = []

-- How many more lines may be selected, if n are selected already.
abbrev pub left_of : Option ℕ → ℕ → Option ℕ
left_of most n = option_map (λ m. m - n) most

abbrev pub may_select : Option ℕ → ℕ → Bool
may_select None n = true
may_select (Some m) n = nat_lt n m

-- For each of these lines, whether it is selected, if n of the lines before them are.
abbrev pub flags_after : OutputOptions → LineMatcher → ℕ → List TextLine → List Bool
flags_after w f n lines = limited (left_of w.most n) (map (is_wanted w f) lines)

-- Whether matches are counted, and not lines.
abbrev pub counts_matches : Print → Bool
counts_matches Lines = false
counts_matches Matches = false
counts_matches Count = false
counts_matches CountMatches = true
counts_matches NameIfAny = false
counts_matches NameIfNone = false
counts_matches Nothing = false

-- What the lines so far have counted.
abbrev pub number_of : Print → Reporter → ℕ
number_of print t = if counts_matches print then t.matches else t.count

-- By how much a line that has so many matches raises the number that is counted.
abbrev pub added : Print → Bool → ℕ → ℕ
added print sel n = if sel then (if counts_matches print then n else 1) else 0

-- By how much it raises the number of matches, which is counted only if it is printed.
abbrev pub added_matches : Print → Bool → ℕ → ℕ
added_matches print sel n = if counts_matches print && sel then n else 0

abbrev pub still_reported : OutputOptions → LineMatcher → List ℕ → Bool → Reporter → List TextLine → List ℕ
still_reported w f name with_name t lines = reported_lines w.print w name with_name t.course (number_of w.print t) (flags_after w f t.count lines)
    (map (reported_item w f) lines)

-- How many lines are selected in all.
abbrev pub count_in_all : OutputOptions → LineMatcher → Reporter → List TextLine → ℕ
count_in_all w f t lines = t.count + count_selected (flags_after w f t.count lines)

-- Whether the output depends on the matches: it does if they are printed alone or shown in lines.
abbrev pub needs_of : Print → Bool → Bool
needs_of Lines shows = shows
needs_of Matches shows = true
needs_of Count shows = false
needs_of CountMatches shows = true
needs_of NameIfAny shows = false
needs_of NameIfNone shows = false
needs_of Nothing shows = false

-- Whether the output depends on what is shown of lines, besides their bytes.
abbrev pub needs_shown : OutputOptions → Bool
needs_shown w = needs_of w.print (shows_matches w)

-- Whether it depends on the spans of matches. What replaces matches is found without these.
abbrev pub needs_spans : OutputOptions → Bool
needs_spans w = needs_shown w && not (is_some w.replacement)

-- A matcher that agrees on which lines have a match, and reports what else is shown only if the output depends on it.
abbrev pub with_needed_spans : OutputOptions → LineMatcher → LineMatcher
with_needed_spans w f = record f {
  spans = λ line. if needs_shown w then f.spans line else [];
  replaced = λ template line. if needs_shown w then f.replaced template line else as_it_is line [];
}
