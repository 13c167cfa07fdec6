-- What is seen of a line.
use Rattle.std.proofs.Common.{◌≡◌, ℕ, zero, suc, ◌+◌, Bool, true, false, not, ◌&&◌, List, [], ◌++◌, map, length, drop, All, Option, Some, None, if◌then◌else◌}
use Rattle.std.proofs.Common.{refl, sym, ap, ap₂, ◌∙◌, subst, arith}
use Rattle.std.specs.Borrow.{Bor}
use Rattle.std.specs.Prelude.{is_some}
use Rattle.regex_hir.specs.Re.{Re}
use Rattle.regex_hir.specs.Find.{Match, find, find_all, matches_from}
use Rattle.regex_syntax.specs.Grammar.{Names}
use Rattle.regex.specs.Replace.{replaced_by}
use Rattle.pattern_search.specs.Searches.{span_of_match}
use Rattle.line_search.specs.Bounded.{line_pattern}
use Rattle.line_search.specs.Meant.{line_config}
use Rattle.line_search.specs.declared.patterns.PatternOptions.{PatternOptions}
use Rattle.grep_core.specs.declared.output_options.OutputOptions.{OutputOptions}
use Rattle.line_search.specs.Lines.{SplitLine, TextLine, searched, split_lines}
use Rattle.line_search.specs.Patterns.{finds_of, has_match_in, spans_in}
use Rattle.line_search.specs.Replacing.{all_names, replaced_line, replaced_spans, replaced_text, written_for, written_spans}
use Rattle.line_search.specs.LineMatchers.{LineMatcher, ShownLine}
use Rattle.grep_core.specs.Report.{as_it_is, shown_by, shown_line, shown_of, shown_spans}
use Rattle.line_search.specs.Candidates.{HaveNoMatch}
use Rattle.line_search.specs.Searchers.{AreReplaced, AreReported, IsMatchReported, Sought, SearchesFor, found_by}
use Rattle.pattern_search.specs.Texts.{AreReadAs}
use Rattle.grep_core.specs.Reporting.{needs_shown, needs_spans, with_needed_spans}
use Rattle.grep_core.proofs.NeededLemmas.{same_shown}
use Rattle.grep_core.proofs.ReturnLemmas.{searched_and_rest}

none_from : (search_from : ℕ → Option Match) (n : ℕ) (o : Option Match) → is_some o ≡ false → matches_from search_from n o ≡ []
unfolding matches_from
none_from search_from zero o none = refl
none_from search_from (suc n) None none = refl
none_from search_from (suc n) (Some m) none = absurd (grind (arith, none))

no_spans : (b : Bool) (found : List (ℕ × ℕ)) → found ≡ [] → (if b then found else []) ≡ []
no_spans true found e = e
no_spans false found e = refl

unchanged : (b : Bool) (line : SplitLine) (s : ShownLine) → s ≡ as_it_is line [] → (if b then s else as_it_is line []) ≡ as_it_is line []
unchanged true line s e = e
unchanged false line s e = refl

module _ (how : PatternOptions) (names : List Names) (res : List Re) where
  no_matches : (line : List ℕ) → has_match_in how res line ≡ false → find_all (line_pattern how res) line ≡ []
  no_matches line none = none_from (find (line_pattern how res) line) (length line + 1) (find (line_pattern how res) line 0) none

  abbrev with_replaced : SplitLine → List ℕ → (Match → List ℕ) → List Match → ShownLine
  with_replaced line text written ms =
      as_it_is (record { bytes = replaced_by written text 0 ms ++ drop (length text) line.bytes; is_ended = line.is_ended })
      (written_spans written 0 0 ms)

  -- without a match, nothing is replaced
  replaces_none : (line : SplitLine) → has_match_in how res (searched how.crlf line) ≡ false → (template : List ℕ) →
      replaced_line how names res template line ≡ as_it_is line []
  unfolding replaced_by written_spans
  replaces_none line none template =
      let text : List ℕ = searched how.crlf line in
      let written = written_for how names res template text in
      ap (with_replaced line text written) (no_matches text none)
      ∙ ap (λ bs. as_it_is (record { bytes = bs; is_ended = line.is_ended }) []) (searched_and_rest how.crlf line)

  -- a line without a match has no matches
  pub none_found : (w : OutputOptions) (line : SplitLine) → (finds_of how names res).has_match line ≡ false →
      (with_needed_spans w (finds_of how names res)).spans line ≡ []
  none_found w line none = no_spans (needs_shown w) (spans_in how res (searched how.crlf line))
      (ap (map span_of_match) (no_matches (searched how.crlf line) none))

  pub none_changed : (w : OutputOptions) (line : SplitLine) → (finds_of how names res).has_match line ≡ false → (template : List ℕ) →
      (with_needed_spans w (finds_of how names res)).replaced template line ≡ as_it_is line []
  none_changed w line none template = unchanged (needs_shown w) line (replaced_line how names res template line) (replaces_none line none template)

-- so it is shown as it is
pub shown_without : (w : OutputOptions) (f : LineMatcher) (line : SplitLine) → f.spans line ≡ [] →
    ((template : List ℕ) → f.replaced template line ≡ as_it_is line []) → shown_of w f line ≡ as_it_is line []
shown_without w f line none same = by w.replacement
  where
    by : (o : Option (Bor (List ℕ))) → shown_by o f line ≡ as_it_is line []
    by None = ap (as_it_is line) none
    by (Some t) = same t.now

pub none_shown : (w : OutputOptions) (how : PatternOptions) (names : List Names) (res : List Re) (line : SplitLine) (has : Bool) →
    has ≡ (finds_of how names res).has_match line → has ≡ false →
    shown_of w (with_needed_spans w (finds_of how names res)) line ≡ as_it_is line []
none_shown w how names res line has reported none =
    shown_without w (with_needed_spans w (finds_of how names res)) line (none_found how names res w line (sym reported ∙ none))
    (none_changed how names res w line (sym reported ∙ none))

-- if what is shown doesn't count, the line is shown as it is
pub none_needed : (w : OutputOptions) (f : LineMatcher) (line : SplitLine) → needs_shown w ≡ false →
    shown_of w (with_needed_spans w f) line ≡ as_it_is line []
none_needed w f line none =
    shown_without w (with_needed_spans w f) line (ap (λ b. (if b then f.spans line else [])) none)
    (λ template. ap (λ b. (if b then f.replaced template line else as_it_is line [])) none)

-- or a line whose matches are replaced
pub replaced_needed : (w : OutputOptions) (f : LineMatcher) (line : SplitLine) (template : Bor (List ℕ)) (s : ShownLine) → needs_shown w ≡ true →
    w.replacement ≡ Some template → s ≡ f.replaced template.now line → s ≡ shown_of w (with_needed_spans w f) line
replaced_needed w f line template s needs asked reported =
    reported ∙ sym (same_shown w f needs line ∙ ap (λ o. shown_by o f line) asked)

-- a finder that seeks the same
abbrev pub moved_by : {p q : Sought} {spans : Bool} → q ≡ p → SearchesFor p spans → SearchesFor q spans
moved_by {p} {q} {spans} same by = record {
  may = λ asked. ap (λ (s : Sought). s.spans) same ∙ by.may asked;
  how = by.how;
  same = by.same ∙ sym (ap (λ (s : Sought). s.how) same);
  patterns = by.patterns;
  are_read = subst (λ (s : Sought). AreReadAs (line_config by.how) s.texts by.patterns) (sym same) by.are_read;
  names = by.names;
  named = by.named ∙ ap (λ (s : Sought). all_names by.how s.texts) (sym same);
}

-- what is reported of some bytes, for what is sought
pub progress_by : (s : Sought) (spans : Bool) (by : SearchesFor s spans) (line : List ℕ) (reported : Bool) →
    IsMatchReported s.how s.texts line reported →
    reported ≡ has_match_in by.how by.patterns line
progress_by s spans by line reported match =
    subst (λ (h : PatternOptions). IsMatchReported h s.texts line reported) (sym by.same) match by.patterns by.are_read

pub none_by : (s : Sought) (spans : Bool) (by : SearchesFor s spans) (text : List ℕ) → HaveNoMatch s.how s.texts text →
    All (λ line. (found_by by).has_match line ≡ false) (split_lines text)
none_by s spans by text none =
    subst (λ (h : PatternOptions). HaveNoMatch h s.texts text) (sym by.same) none by.patterns by.are_read

-- what replaces the matches of some bytes, as a line that has these bytes and others after them
pub replaced_as : (s : Sought) (spans : Bool) (by : SearchesFor s spans) (line : SplitLine) (template text bytes all : List ℕ)
    (found : List (ℕ × ℕ)) → text ≡ searched s.how.crlf line → AreReplaced s.how s.texts template text bytes found →
    all ≡ bytes ++ drop (length text) line.bytes →
    as_it_is (record { bytes = all; is_ended = line.is_ended }) found ≡ (found_by by).replaced template line
replaced_as s spans by line template text bytes all found is replaced whole =
    let own = subst (λ (h : PatternOptions). AreReplaced h s.texts template text bytes found) (sym by.same) replaced in
    let names = all_names by.how s.texts in
    let now : text ≡ searched by.how.crlf line = is ∙ ap (λ (h : PatternOptions). searched h.crlf line) (sym by.same) in
    ap₂ (λ b sp. as_it_is (record { bytes = b; is_ended = line.is_ended }) sp)
    (whole
    ∙ ap (λ b. b ++ drop (length text) line.bytes) (own.bytes_are by.patterns by.are_read)
    ∙ ap (λ t. replaced_text by.how names by.patterns template t ++ drop (length t) line.bytes) now)
    (own.spans_are by.patterns by.are_read ∙ ap (replaced_spans by.how names by.patterns template) now)
    ∙ ap (λ (ns : List Names). replaced_line by.how ns by.patterns template line) (sym by.named)

-- whether a line has a match, by the bytes of it that are searched
pub searched_by : (s : Sought) (spans : Bool) (by : SearchesFor s spans) (text : List ℕ) (line : SplitLine) (has : Bool) →
    text ≡ searched s.how.crlf line → has ≡ has_match_in by.how by.patterns text → has ≡ (found_by by).has_match line
searched_by s spans by text line has is reported =
    reported
    ∙ ap (has_match_in by.how by.patterns) (is ∙ ap (λ (h : PatternOptions). searched h.crlf line) (sym by.same))

-- a line as it is shown, by what was seen of it
pub shown_so : (w : OutputOptions) (f : LineMatcher) (own : TextLine) (s : ShownLine) → s ≡ shown_of w f own.content →
    (record own { content = s.content } ≡ shown_line w f own) × (s.spans ≡ shown_spans w f own)
shown_so w f own s e = (ap (λ (x : ShownLine). record own { content = x.content }) e, ap (λ (x : ShownLine). x.spans) e)
