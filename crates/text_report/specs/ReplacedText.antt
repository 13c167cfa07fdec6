-- What is printed for a text whose matches may span lines, with the matches replaced.
use Rattle.std.specs.Prelude.{ℕ, zero, suc, ◌+◌, ◌-◌, Bool, true, not, ◌&&◌, ◌||◌, nat_le, List, map, slice_get, slice_range, take, Option, Some, None, if◌then◌else◌}
use Rattle.std.specs.Borrow.{Bor}
use Rattle.std.specs.List.{filter, flat_map, position_or_len}
use Rattle.regex_hir.specs.Re.{Re}
use Rattle.regex_syntax.specs.Grammar.{Names}
use Rattle.line_search.specs.Lines.{TextLine}
use Rattle.line_search.specs.Patterns.{spans_in}
use Rattle.line_search.specs.Replacing.{replaced_spans, replaced_text}
use Rattle.line_search.specs.declared.patterns.PatternOptions.{PatternOptions}
use Rattle.grep_core.specs.ContextPrinting.{Item, item}
use Rattle.grep_core.specs.Report.{roles_of}
use Rattle.grep_core.specs.Reporting.{prints_lines}
use Rattle.grep_core.specs.Selecting.{count_selected}
use Rattle.grep_core.specs.declared.output_options.OutputOptions.{OutputOptions}
use Rattle.grep_core.specs.declared.role.Role.{Role}
use Rattle.grep_core.specs.declared.separator_state.SeparatorState.{SeparatorState}
use Rattle.text_report.specs.LineSpans.{lines_from}
use Rattle.text_report.specs.Records.{records_of}
use Rattle.text_report.specs.TextEvents.{EventLines, event_lines, is_selected, touched_lines}
use Rattle.text_report.specs.TextReports.{by_starts, counts_begun, report_as_it_is, report_items, selected_as_it_is}
use Rattle.text_report.specs.Touching.{content_end, has_match_of, parts_in}

-- ---- where a part of a text is after its matches were replaced

-- How many matches begin before an offset.
abbrev pub begun_before : List (ℕ × ℕ) → ℕ → ℕ
begun_before found at = position_or_len (λ s. nat_le at s.0) found

abbrev pub end_of_span : Option (ℕ × ℕ) → ℕ
end_of_span None = 0
end_of_span (Some s) = s.1

-- The offset after the last one of the first n spans, or 0 if there is none.
abbrev pub end_of_first : List (ℕ × ℕ) → ℕ → ℕ
end_of_first spans zero = 0
end_of_first spans (suc n) = end_of_span (slice_get spans n)

-- The offset in the replaced text of what is at an offset of the text, where `spans` has what replaces each match that is found. An offset in
-- a match stands for the end of what replaces it.
abbrev pub replaced_offset : List (ℕ × ℕ) → List (ℕ × ℕ) → ℕ → ℕ
replaced_offset found spans at =
    end_of_first spans (begun_before found at) + (at - end_of_first found (begun_before found at))

-- ---- what is printed for lines that are replaced together

-- The offset after some lines and the byte that ends the last one, or that would end it.
abbrev pub past_lines : EventLines → ℕ
past_lines a = content_end a.last + 1

-- What replaces the matches that begin in some lines.
abbrev pub spans_of : List (ℕ × ℕ) → List (ℕ × ℕ) → EventLines → List (ℕ × ℕ)
spans_of found spans a = slice_range spans (begun_before found a.first.place) (begun_before found (past_lines a))

-- The lines of the replaced text that come of some lines, which end with this byte. Their offsets are those in the replaced text, and their
-- numbers count on from that of the first of these lines.
abbrev pub new_lines : ℕ → List ℕ → List (ℕ × ℕ) → List (ℕ × ℕ) → EventLines → List TextLine
new_lines t bytes found spans a =
    lines_from t (take (replaced_offset found spans (past_lines a)) bytes) a.first.number (replaced_offset found spans a.first.place)

-- Whether a line of the replaced text is printed. If lines are printed for each match, a selected one is printed only if the replacement of a
-- match begins in it.
abbrev pub keeps_line : OutputOptions → Bool → List (ℕ × ℕ) → TextLine → Bool
keeps_line w selected spans line = not (by_starts w && selected) || has_match_of true spans line

-- A line of the replaced text as it is printed. Its offset counts on from that of the first line of which it comes: `place` in the text, and
-- `start` in the replaced text.
abbrev pub new_item : OutputOptions → Bool → List (ℕ × ℕ) → ℕ → ℕ → TextLine → Item
new_item w crlf spans place start line =
    item (record line { place = place + (line.place - start) }) (parts_in (counts_begun w) crlf spans line)

-- What is printed for some lines.
abbrev pub new_items : OutputOptions → Bool → List ℕ → List (ℕ × ℕ) → List (ℕ × ℕ) → EventLines → List Item
new_items w crlf bytes found spans a =
    map (new_item w crlf (spans_of found spans a) a.first.place (replaced_offset found spans a.first.place))
    (filter (keeps_line w (is_selected a.role) (spans_of found spans a)) (new_lines w.terminator bytes found spans a))

-- For each of these, whether it counts as a selected line.
abbrev pub new_flags : OutputOptions → Bool → List ℕ → List (ℕ × ℕ) → List (ℕ × ℕ) → EventLines → List Bool
new_flags w crlf bytes found spans a = map (λ _. is_selected a.role) (new_items w crlf bytes found spans a)

-- ---- what is printed for a text

-- The lines of a text that are replaced together: adjacent selected lines, or with `invert` each line by itself.
abbrev pub text_groups : OutputOptions → List (ℕ × ℕ) → List ℕ → List EventLines
text_groups w found text = event_lines (not w.invert) (roles_of w (touched_lines w found text)) (records_of w text)

-- What is printed for a text with these matches, where `bytes` is the text with its matches replaced, and `spans` has what replaces them.
abbrev pub report_new : OutputOptions → Bool → List ℕ → Bool → SeparatorState → List ℕ → List (ℕ × ℕ) → List (ℕ × ℕ) → List ℕ → List ℕ
report_new w crlf name with_name known bytes found spans text =
    report_items w.print w name with_name known (flat_map (new_flags w crlf bytes found spans) (text_groups w found text))
    (flat_map (new_items w crlf bytes found spans) (text_groups w found text))

-- How many lines of a text matches touch, or with `invert` don't, up to the greatest number that are selected.
abbrev pub selected_touched : OutputOptions → List (ℕ × ℕ) → List ℕ → ℕ
selected_touched w found text = count_selected (touched_lines w found text)

-- The template, if lines or matches are printed.
abbrev pub template_of : OutputOptions → Option (Bor (List ℕ))
template_of w = if prints_lines w.print then w.replacement else None

abbrev pub report_with : Option (Bor (List ℕ)) → OutputOptions → PatternOptions → List Names → List Re → List ℕ → Bool → SeparatorState → List ℕ →
    List ℕ
report_with None w how names res name with_name known text = report_as_it_is w how res name with_name known text
report_with (Some template) w how names res name with_name known text =
    report_new w how.crlf name with_name known (replaced_text how names res template.now text) (spans_in how res text)
    (replaced_spans how names res template.now text) text

abbrev pub selected_by : Option (Bor (List ℕ)) → OutputOptions → PatternOptions → List Re → List ℕ → ℕ
selected_by None w how res text = selected_as_it_is w how res text
selected_by (Some template) w how res text = selected_touched w (spans_in how res text) text

-- What is printed for a text. Its matches are those of the whole text, from left to right. If there is a template and lines or matches are
-- printed, the matches are replaced.
abbrev pub report_text : OutputOptions → PatternOptions → List Names → List Re → List ℕ → Bool → SeparatorState → List ℕ → List ℕ
report_text w how names res name with_name known text = report_with (template_of w) w how names res name with_name known text

-- How many lines of it are selected.
abbrev pub selected_in_text : OutputOptions → PatternOptions → List Re → List ℕ → ℕ
selected_in_text w how res text = selected_by (template_of w) w how res text
