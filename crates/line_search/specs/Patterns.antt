-- Which lines patterns match. A line is searched by the toolchain's matcher for the alternation of the parsed patterns, each of them
-- bounded if lines or words are asked for. The first alternative is preferred.
use Rattle.std.specs.Prelude.{ℕ, Bool, List, map, is_some}
use Rattle.regex_hir.specs.Re.{Re}
use Rattle.regex_hir.specs.Find.{find, find_all}
use Rattle.regex_syntax.specs.Grammar.{Names}
use Rattle.pattern_search.specs.Searches.{span_of_match}
use Rattle.line_search.specs.Bounded.{line_pattern}
use Rattle.line_search.specs.Lines.{searched}
use Rattle.line_search.specs.Replacing.{replaced_line}
use Rattle.line_search.specs.LineMatchers.{LineMatcher}
use Rattle.line_search.specs.declared.patterns.PatternOptions.{PatternOptions}

-- Whether some bytes have a match.
abbrev pub has_match_in : PatternOptions → List Re → List ℕ → Bool
has_match_in how res bytes = is_some (find (line_pattern how res) bytes 0)

-- The spans of all matches in some bytes, from left to right.
abbrev pub spans_in : PatternOptions → List Re → List ℕ → List (ℕ × ℕ)
spans_in how res bytes = map span_of_match (find_all (line_pattern how res) bytes)

-- The matcher of these patterns. It searches the bytes that `searched` gives for a line. So with `crlf` they don't include a carriage
-- return right before the line feed. The groups of each pattern have the names in the list at its number.
abbrev pub finds_of : PatternOptions → List Names → List Re → LineMatcher
finds_of how names res = record {
  has_match = λ line. has_match_in how res (searched how.crlf line);
  spans = λ line. spans_in how res (searched how.crlf line);
  replaced = λ template line. replaced_line how names res template line;
}
