-- Whether a match of a text counts for a line, and the parts of matches in it.
use Rattle.std.proofs.Common.{◌≡◌, ◌≤◌, ℕ, ◌-◌, Bool, List, drop, length, map, slice_range, refl, sym, ap, ap₂, ◌∙◌, subst, arith}
use Rattle.std.proofs.Common.{length-drop, length-take-le}
use Rattle.std.specs.List.{filter, list_any}
use Rattle.search_types.specs.declared.span.Span.{Span}
use Rattle.line_search.specs.LineMatchers.{span_pair}
use Rattle.line_search.specs.Lines.{searched}
use Rattle.text_report.proofs.TouchingLemmas.{same_any}
use Rattle.text_report.specs.LineSpans.{content_of, line_of}
use Rattle.text_report.specs.Touching.{AreBefore, counts_at, counts_for, has_match_of, content_end, part_at, parts_in}
use Rattle.text_report.specs.declared.lines.LineSpan.{LineSpan}

-- ---- a line of a text
module _ (text : List ℕ) (line : LineSpan) (ordered : line.start ≤ line.end) (inside : line.end ≤ length text) where
  size : length (slice_range text line.start line.end) ≡ line.end - line.start
  size = length-take-le (line.end - line.start) (drop line.start text) (omega (arith, length-drop line.start text, inside))

  pub ends_there : content_end (line_of text line) ≡ line.end
  ends_there = omega (arith, size, ordered)

  module _ (found : List Span) (first : ℕ) (before : AreBefore found first line.start) (begun : Bool) where
    same_found : filter (counts_for begun (line_of text line)) (map span_pair found)
        ≡ filter (counts_at begun line.start line.end) (map span_pair (drop first found))
    same_found =
        ap (λ e. filter (counts_at begun line.start e) (map span_pair found)) ends_there
        ∙ before begun line.start line.end (omega arith)

    -- whether a match counts for it
    pub has_there : (rest : List Span) (has : Bool) → rest ≡ drop first found →
        has ≡ list_any (counts_at begun line.start line.end) (map span_pair rest) →
        has ≡ has_match_of begun (map span_pair found) (line_of text line)
    has_there rest has from is =
        is
        ∙ ap (λ l. list_any (counts_at begun line.start line.end) (map span_pair l)) from
        ∙ sym (ap (λ e. list_any (counts_at begun line.start e) (map span_pair found)) ends_there
        ∙ same_any (counts_at begun line.start line.end) (map span_pair found) (map span_pair (drop first found))
        (before begun line.start line.end (omega arith)))

    -- the parts of matches in it
    pub parts_there : (crlf : Bool) (rest : List Span) (n : ℕ) (parts : List (ℕ × ℕ)) → rest ≡ drop first found →
        n ≡ length (searched crlf (content_of text line)) →
        parts ≡ map (part_at line.start line.end n) (filter (counts_at begun line.start line.end) (map span_pair rest)) →
        parts ≡ parts_in begun crlf (map span_pair found) (line_of text line)
    parts_there crlf rest n parts from long is =
        is
        ∙ ap₂ (λ k l. map (part_at line.start line.end k) (filter (counts_at begun line.start line.end) (map span_pair l))) long from
        ∙ sym (ap (λ e. map (part_at line.start e (length (searched crlf (content_of text line))))
        (filter (counts_for begun (line_of text line)) (map span_pair found))) ends_there
        ∙ ap (map (part_at line.start line.end (length (searched crlf (content_of text line))))) same_found)

-- matches that are before a line are before the next one
pub still_before : (found : List Span) (first place next : ℕ) → place ≤ next → AreBefore found first place → AreBefore found first next
still_before found first place next low before begun start end far = before begun start end (omega (arith, low, far))

-- and so are those that were skipped after them
pub more_before : (found : List Span) (first next place : ℕ) →
    ((begun : Bool) (start end : ℕ) → place ≤ start →
    filter (counts_at begun start end) (map span_pair (drop first found)) ≡ filter (counts_at begun start end) (map span_pair (drop next found))) →
    AreBefore found first place → AreBefore found next place
more_before found first next place skipped before begun start end low = before begun start end low ∙ skipped begun start end low

-- no match is before the first one
pub none_before_first : (found : List Span) (first place : ℕ) → first ≡ 0 → AreBefore found first place
none_before_first found first place is begun start end low =
    subst (λ (k : ℕ). filter (counts_at begun start end) (map span_pair found)
    ≡ filter (counts_at begun start end) (map span_pair (drop k found))) (sym is) refl
