-- What is reported of a whole haystack.
use Rattle.std.proofs.Common.{◌≡◌, ℕ, List, [], ◌++◌, take, Option, ap, ◌∙◌, subst}
use Rattle.std.specs.Io.KnownBytes.{Appends}
use Rattle.grep_core.specs.declared.progress.Progress.{Progress}
use Rattle.grep_core.specs.declared.progress.Task.{Task}
use Rattle.grep_core.specs.declared.separator_state.SeparatorState.{SeparatorState}
use Rattle.grep_core.specs.Blocks.{reported_bytes, counts_lines, ReadsAndWrites, WritesPart}
use Rattle.line_search.specs.Lines.{text_lines, split_lines}
use Rattle.line_search.specs.LineMatchers.{LineMatcher}
use Rattle.grep_core.specs.Report.{counted_as, report, report_as, selected, selected_count}
use Rattle.grep_core.specs.Selecting.{count_selected}
use Rattle.grep_core.specs.Reporting.{with_needed_spans}
use Rattle.grep_core.proofs.NeededLemmas.{needed_report}
use Rattle.grep_core.proofs.WriteLemmas.{all_written, all_part}

module _ (t : Task) (f : LineMatcher) where
  abbrev wanted : LineMatcher
  wanted = with_needed_spans t.what.now f

  -- before its first line
  abbrev pub Begins : SeparatorState → Progress → Type 0
  Begins known p = (text : List ℕ) → reported_bytes t (with_needed_spans t.what.now f) p (split_lines text)
      ≡ report_as t.what.now.print t.what.now (with_needed_spans t.what.now f) t.name.now t.with_name known (text_lines text)
      (selected t.what.now (with_needed_spans t.what.now f) (text_lines text))

  begins : (known : SeparatorState) (p : Progress) (read text : List ℕ) → read ≡ [] → Begins known p →
      reported_bytes t wanted p (split_lines (read ++ text)) ≡ report t.what.now f t.name.now t.with_name known text
  begins known p read text none starts =
      ap (λ l. reported_bytes t wanted p (split_lines (l ++ text))) none ∙ starts text
      ∙ needed_report t.what.now f t.name.now t.with_name known text

  pub text_part : (known : SeparatorState) (p : Progress) (read text : List ℕ) (u v : Option (List ℕ)) → read ≡ [] → Begins known p →
      WritesPart t (with_needed_spans t.what.now f) p (read ++ text) u v →
      (n : ℕ) × Appends u v (take n (report t.what.now f t.name.now t.with_name known text))
  text_part known p read text u v none starts part =
      (part.0, subst (λ l. Appends u v (take part.0 l)) (begins known p read text none starts) part.1)

  pub text_written : (known : SeparatorState) (o p : Progress) (x y z text : List ℕ) (now u w v : Option (List ℕ)) → x ≡ [] → z ≡ y →
      Begins known o →
      (a : ReadsAndWrites t (with_needed_spans t.what.now f) o p x y text now u w) →
      Appends w v (reported_bytes t (with_needed_spans t.what.now f) p (split_lines (z ++ a.rest))) →
      Appends u v (report t.what.now f t.name.now t.with_name known text)
  text_written known o p x y z text now u w v none shown starts a written =
      subst (Appends u v) (begins known o x text none starts)
      (all_written t wanted o p x y text now u w v a (subst
      (λ l. Appends w v (reported_bytes t wanted p (split_lines (l ++ a.rest)))) shown written))

  pub rest_part : (known : SeparatorState) (o p : Progress) (x y z text : List ℕ) (now u w v : Option (List ℕ)) → x ≡ [] → z ≡ y →
      Begins known o →
      (a : ReadsAndWrites t (with_needed_spans t.what.now f) o p x y text now u w) →
      WritesPart t (with_needed_spans t.what.now f) p (z ++ a.rest) w v →
      (n : ℕ) × Appends u v (take n (report t.what.now f t.name.now t.with_name known text))
  rest_part known o p x y z text now u w v none shown starts a part =
      text_part known o x text u v none starts (all_part t wanted o p x y text now u w v a
      (subst (λ l. WritesPart t wanted p (l ++ a.rest) w v) shown part))

  pub text_counted : (o p : Progress) (x y z text : List ℕ) (now u w : Option (List ℕ)) (n last : ℕ) → x ≡ [] → z ≡ y →
      ((l : List ℕ) → counts_lines t (with_needed_spans t.what.now f) o (split_lines l)
      ≡ count_selected (selected t.what.now (with_needed_spans t.what.now f) (text_lines l))) →
      (a : ReadsAndWrites t (with_needed_spans t.what.now f) o p x y text now u w) → n ≡ last →
      last ≡ counted_as t.what.now.print (counts_lines t (with_needed_spans t.what.now f) p (split_lines (z ++ a.rest))) →
      n ≡ counted_as t.what.now.print (selected_count t.what.now f text)
  text_counted o p x y z text now u w n last none shown starts a is rest =
      is
      ∙ rest
      ∙ ap (λ l. counted_as t.what.now.print (counts_lines t wanted p (split_lines (l ++ a.rest)))) shown
      ∙ ap (counted_as t.what.now.print) (a.writes.on.counted
      ∙ ap (λ l. counts_lines t wanted o (split_lines (l ++ text))) none ∙ starts text)
