-- The report of a text is that of the matches that the search reports.
use Rattle.std.proofs.Common.{◌≡◌, ℕ, Bool, true, List, Some, ap, ap₂, map, refl, subst, sym, ◌∙◌}
use Rattle.std.specs.Borrow.{Bor}
use Rattle.regex_hir.specs.Find.{find_all}
use Rattle.regex_syntax.specs.Grammar.{Names}
use Rattle.search_types.specs.declared.span.Span.{Span}
use Rattle.line_search.specs.LineMatchers.{span_pair}
use Rattle.line_search.specs.Patterns.{spans_in}
use Rattle.line_search.specs.Bounded.{line_pattern}
use Rattle.line_search.specs.Replacing.{replaced_spans, replaced_text, written_for}
use Rattle.line_search.specs.Searchers.{AreReplaced, AreReported, SearchesFor, Sought}
use Rattle.line_search.specs.declared.patterns.PatternOptions.{PatternOptions}
use Rattle.grep_core.specs.declared.output_options.OutputOptions.{OutputOptions}
use Rattle.grep_core.specs.declared.separator_state.SeparatorState.{SeparatorState}
use Rattle.text_report.proofs.OrderLemmas.{in_order}
use Rattle.text_report.proofs.ReplacedLemmas.{written_in_order}
use Rattle.text_report.specs.ReplacedText.{report_with, report_new}
use Rattle.text_report.specs.TextReports.{report_as_it_is, report_found, selected_as_it_is, selected_in_found}
use Rattle.text_report.specs.Touching.{StartInOrder}

module _ (s : Sought) (by : SearchesFor s true) (text : List ℕ) (crlf : Bool) (all found : List Span) (crlf_is : crlf ≡ s.how.crlf)
    (same : all ≡ found) (reported : s.spans ≡ true → AreReported s.how s.texts text (map span_pair found)) where
  pub spans_are : map span_pair all ≡ spans_in by.how by.patterns text
  spans_are =
      ap (λ (l : List Span). map span_pair l) same
      ∙ subst (λ (h : PatternOptions). AreReported h s.texts text (map span_pair found)) (sym by.same) (reported (by.may refl))
      by.patterns by.are_read

  pub are_ordered : StartInOrder (map span_pair all)
  are_ordered = subst StartInOrder (sym spans_are) (in_order by.how by.patterns text)

  pub whole_text : (w : OutputOptions) (name : List ℕ) (with_name : Bool) (known : SeparatorState) →
      report_found w crlf name with_name known (map span_pair all) text ≡ report_as_it_is w by.how by.patterns name with_name known text
  whole_text w name with_name known =
      ap₂ (λ (c : Bool) (l : List (ℕ × ℕ)). report_found w c name with_name known l text)
      (crlf_is ∙ sym (ap (λ (h : PatternOptions). h.crlf) by.same)) spans_are

  pub whole_count : (w : OutputOptions) → selected_in_found w (map span_pair all) text ≡ selected_as_it_is w by.how by.patterns text
  whole_count w = ap (λ l. selected_in_found w l text) spans_are

-- And so is that of a text whose matches are replaced.
module _ (s : Sought) (by : SearchesFor s true) (text template bytes : List ℕ) (spans : List (ℕ × ℕ))
    (reported : AreReplaced s.how s.texts template text bytes spans) where
  replaced : AreReplaced by.how s.texts template text bytes spans
  replaced = subst (λ (h : PatternOptions). AreReplaced h s.texts template text bytes spans) (sym by.same) reported

  bytes_are : bytes ≡ replaced_text by.how by.names by.patterns template text
  bytes_are =
      replaced.bytes_are by.patterns by.are_read
      ∙ ap (λ (names : List Names). replaced_text by.how names by.patterns template text) (sym by.named)

  new_spans_are : spans ≡ replaced_spans by.how by.names by.patterns template text
  new_spans_are =
      replaced.spans_are by.patterns by.are_read
      ∙ ap (λ (names : List Names). replaced_spans by.how names by.patterns template text) (sym by.named)

  pub new_ordered : StartInOrder spans
  new_ordered =
      subst StartInOrder (sym new_spans_are)
      (written_in_order (written_for by.how by.names by.patterns template text) (find_all (line_pattern by.how by.patterns) text))

  pub whole_new : (crlf : Bool) (found : List (ℕ × ℕ)) → crlf ≡ s.how.crlf → found ≡ spans_in by.how by.patterns text → (t : Bor (List ℕ)) →
      t.now ≡ template → (w : OutputOptions) (name : List ℕ) (with_name : Bool) (known : SeparatorState) →
      report_new w crlf name with_name known bytes found spans text
      ≡ report_with (Some t) w by.how by.names by.patterns name with_name known text
  whole_new crlf found crlf_is found_is t same w name with_name known =
      (λ i. report_new w ((crlf_is ∙ sym (ap (λ (h : PatternOptions). h.crlf) by.same)) i) name with_name known (bytes_are i) (found_is i)
      (new_spans_are i) text)
      ∙ ap (λ (l : List ℕ). report_new w by.how.crlf name with_name known (replaced_text by.how by.names by.patterns l text)
      (spans_in by.how by.patterns text) (replaced_spans by.how by.names by.patterns l text) text) (sym same)
