-- What a parsed pattern matches if a match has to be a whole line, or whole words. The pattern is parsed by itself, so nothing
-- in it can affect what is put around it here.
use Rattle.std.specs.Prelude.{◌≡◌, ◌≤◌, ◌==◌, ℕ, Bool, true, not, ◌&&◌, ◌||◌, List, [], ◌∷◌, length, map, slice_get, Some, if◌then◌else◌}
use Rattle.regex_hir.specs.Looks.{holds, is_word, is_whole, side_before, side_after}
use Rattle.regex_hir.specs.Matches.{Matches}
use Rattle.regex_hir.specs.Meaning.{cat_all, alt_all}
use Rattle.regex_hir.specs.Re.{Re, look}
use Rattle.regex_hir.specs.declared.look.Look.{Look}
use Rattle.regex_hir.specs.declared.look.Look.TheVariants.{Start, End, StartLf, EndLf, StartCrlf, EndCrlf, WordStartUnicode, WordStartHalfUnicode}
use Rattle.regex_hir.specs.declared.look.Look.TheVariants.{WordEndUnicode, WordEndHalfUnicode}
use Rattle.line_search.specs.declared.patterns.PatternOptions.{PatternOptions}

-- `(?:\b{start}|\b{start-half})`
abbrev pub word_start : Re
word_start = alt_all (look WordStartUnicode ∷ look WordStartHalfUnicode ∷ [])

-- `(?:\b{end}|\b{end-half})`
abbrev pub word_end : Re
word_end = alt_all (look WordEndUnicode ∷ look WordEndHalfUnicode ∷ [])

-- The look-around assertions at both ends of what has to be a whole line: the edges of what is searched, or in a text those of its lines.
abbrev pub start_look : PatternOptions → Look
start_look how = if how.text then (if how.crlf then StartCrlf else StartLf) else Start

abbrev pub end_look : PatternOptions → Look
end_look how = if how.text then (if how.crlf then EndCrlf else EndLf) else End

-- The expression that lines are searched for: the parsed pattern, bounded if lines or words are asked for.
abbrev pub bounded : PatternOptions → Re → Re
bounded how re =
    if how.lines then cat_all (look (start_look how) ∷ re ∷ look (end_look how) ∷ [])
    else if how.words then cat_all (word_start ∷ re ∷ word_end ∷ [])
    else re

-- The expression for several parsed patterns: their alternation, in order.
abbrev pub line_pattern : PatternOptions → List Re → Re
line_pattern how res = alt_all (map (bounded how) res)

-- Whether a match of words may start at this offset. No word character precedes the offset. In addition a word character follows it, or the
-- offset is the start of the line, or a whole character precedes it. Bytes that aren't UTF-8 might be part of a word.
abbrev pub may_start_word : List ℕ → ℕ → Bool
may_start_word line i = not (is_word (side_before line i)) && (is_word (side_after line i) || is_whole (side_before line i))

-- Whether a match of words may end at this offset. This mirrors the conditions on its start.
abbrev pub may_end_word : List ℕ → ℕ → Bool
may_end_word line i = not (is_word (side_after line i)) && (is_word (side_before line i) || is_whole (side_after line i))

-- Whether a match of whole lines may start and end at these offsets. In a text they are where `^` and `$` match.
abbrev pub may_start_line : PatternOptions → List ℕ → ℕ → Bool
may_start_line how line i = if how.text then holds (start_look how) line i else i == 0

abbrev pub may_end_line : PatternOptions → List ℕ → ℕ → Bool
may_end_line how line j = if how.text then holds (end_look how) line j else j == length line

-- Which spans of a line count, whatever the pattern is. With `lines` it is the whole line, or in a text each span that starts where a line
-- starts and ends where one ends. With `words` it is each span whose start and end pass the tests above. Otherwise all spans count.
abbrev pub span_counts : PatternOptions → List ℕ → ℕ → ℕ → Bool
span_counts how line i j =
    if how.lines then may_start_line how line i && may_end_line how line j
    else if how.words then may_start_word line i && may_end_word line j
    else true

-- Some pattern matches a span of the line that counts.
pub record HasKeptSpan (how : PatternOptions) (res : List Re) (line : List ℕ) : Type 0 where
  pub number : ℕ
  pub pattern : Re
  pub listed : slice_get res number ≡ Some pattern
  pub start : ℕ
  pub end : ℕ
  pub within : start ≤ length line
  pub kept : span_counts how line start end ≡ true
  pub matches : Matches line pattern start end
