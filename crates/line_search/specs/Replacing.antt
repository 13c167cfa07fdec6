-- What is shown of a line if its matches are replaced. This is what ripgrep 13 prints with --replace, except that groups are those of the
-- pattern that matched.
use Rattle.std.specs.Prelude.{ℕ, ◌+◌, ◌-◌, List, [], ◌∷◌, ◌++◌, drop, is_some, length, map, max, nat_lt, not, slice_index_or, if◌then◌else◌}
use Rattle.std.specs.List.{prefix_len}
use Rattle.regex_hir.specs.Re.{Re, accept, attempt}
use Rattle.regex_hir.specs.Find.{Match, find_all}
use Rattle.regex_syntax.specs.Grammar.{Names}
use Rattle.regex.specs.Replace.{group_bytes, replaced_by}
use Rattle.regex.specs.Templates.{written_after}
use Rattle.templates.specs.Expansion.{names_in}
use Rattle.line_search.specs.Bounded.{bounded, line_pattern}
use Rattle.line_search.specs.Lines.{SplitLine, searched}
use Rattle.line_search.specs.Meant.{line_config}
use Rattle.line_search.specs.LineMatchers.{ShownLine}
use Rattle.line_search.specs.declared.patterns.PatternOptions.{PatternOptions}

-- The number of the first pattern that matches from an offset. A match is of this pattern.
unfoldable pub pattern_at : PatternOptions → List Re → List ℕ → ℕ → ℕ
pattern_at how res line i = prefix_len (λ a. not (is_some (attempt line (bounded how a) accept i))) res

-- The names of the groups of each pattern.
abbrev pub all_names : PatternOptions → List (List ℕ) → List Names
all_names how texts = map (names_in (line_config how)) texts

-- The names of the groups of the pattern that matches from an offset.
abbrev pub names_at : PatternOptions → List Names → List Re → List ℕ → ℕ → Names
names_at how names res line i = slice_index_or names (pattern_at how res line i) []

-- The greatest number of groups that one of the patterns has, with group 0.
abbrev pub most_groups : List Names → ℕ
most_groups [] = 0
most_groups (own ∷ names) = max (length own) (most_groups names)

-- What a group of a match matched. A number that no pattern has a group for stands for nothing, as does a group that took no part.
abbrev pub text_of_group : ℕ → List ℕ → Match → ℕ → List ℕ
text_of_group most line m n = if nat_lt n most then group_bytes line m n else []

-- What a template writes for a match: the toolchain's definition, with the names and the groups of the pattern that matched.
abbrev pub written_for : PatternOptions → List Names → List Re → List ℕ → List ℕ → Match → List ℕ
written_for how names res template line m =
    written_after (names_at how names res line m.start) (text_of_group (most_groups names) line m) template 0

-- Where what is written for each match is in the replaced line. So far, that line has `place` bytes, which stand for the line up to the
-- offset `at`.
unfoldable pub written_spans : (Match → List ℕ) → ℕ → ℕ → List Match → List (ℕ × ℕ)
written_spans written at place [] = []
written_spans written at place (m ∷ ms) =
    let start : ℕ = place + (m.start - at) in
    let end : ℕ = start + length (written m) in
    (start, end) ∷ written_spans written m.trace.end end ms

-- The bytes that are searched of a line, with each match replaced.
abbrev pub replaced_text : PatternOptions → List Names → List Re → List ℕ → List ℕ → List ℕ
replaced_text how names res template line =
    replaced_by (written_for how names res template line) line 0 (find_all (line_pattern how res) line)

abbrev pub replaced_spans : PatternOptions → List Names → List Re → List ℕ → List ℕ → List (ℕ × ℕ)
replaced_spans how names res template line =
    written_spans (written_for how names res template line) 0 0 (find_all (line_pattern how res) line)

-- A line with each match replaced. With `crlf`, a carriage return right before the line feed stays.
abbrev pub replaced_line : PatternOptions → List Names → List Re → List ℕ → SplitLine → ShownLine
replaced_line how names res template line = record {
  content = record {
    bytes = replaced_text how names res template (searched how.crlf line) ++ drop (length (searched how.crlf line)) line.bytes;
    is_ended = line.is_ended;
  };
  spans = replaced_spans how names res template (searched how.crlf line);
}
