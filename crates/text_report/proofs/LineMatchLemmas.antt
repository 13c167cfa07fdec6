-- What a finder reports about a line, for the patterns as they are parsed.
use Rattle.std.proofs.Common.{◌≡◌, ℕ, Bool, true, false, not, ◌&&◌, List, [], refl, sym, ap, ◌∙◌, subst, if◌then◌else◌}
use Rattle.line_search.specs.LineMatchers.{LineMatcher}
use Rattle.line_search.specs.Lines.{SplitLine, searched}
use Rattle.line_search.specs.Patterns.{has_match_in, spans_in}
use Rattle.line_search.specs.Searchers.{AreReported, IsMatchReported, SearchesFor, Sought, found_by}
use Rattle.line_search.specs.declared.patterns.PatternOptions.{PatternOptions}
use Rattle.grep_core.specs.Printing.{has_marks}
use Rattle.grep_core.specs.Reporting.{may_select}
use Rattle.grep_core.specs.declared.output_options.OutputOptions.{OutputOptions}
use Rattle.grep_core.specs.declared.role.Role.{Role}
use Rattle.text_report.specs.EventCourse.{selects}
use Rattle.text_report.specs.Events.{shown_found}

pub match_reported : (s : Sought) (by : SearchesFor s true) (line : List ℕ) (content : SplitLine) (has : Bool) →
    line ≡ searched s.how.crlf content → IsMatchReported s.how s.texts line has → has ≡ (found_by by).has_match content
match_reported s by line content has is reported =
    subst (λ (how : PatternOptions). IsMatchReported how s.texts line has) (sym by.same) reported by.patterns by.are_read
    ∙ ap (has_match_in by.how by.patterns) (is ∙ ap (λ (how : PatternOptions). searched how.crlf content) (sym by.same))

pub spans_reported : (s : Sought) (by : SearchesFor s true) (line : List ℕ) (content : SplitLine) (found : List (ℕ × ℕ)) →
    line ≡ searched s.how.crlf content → AreReported s.how s.texts line found → found ≡ (found_by by).spans content
spans_reported s by line content found is reported =
    subst (λ (how : PatternOptions). AreReported how s.texts line found) (sym by.same) reported by.patterns by.are_read
    ∙ ap (spans_in by.how by.patterns) (is ∙ ap (λ (how : PatternOptions). searched how.crlf content) (sym by.same))

none_left : (x y : Bool) → y ≡ false → false ≡ (x && y)
none_left true y e = sym e
none_left false y e = refl

-- no line is selected once enough are
pub not_selected : (w : OutputOptions) (n : ℕ) (has : Bool) → may_select w.most n ≡ false → false ≡ selects w n has
not_selected w n has e = none_left (if w.invert then not has else has) (may_select w.most n) e
