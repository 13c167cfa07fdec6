-- What is written of the lines of a text in memory, piece by piece.
use Rattle.std.proofs.Common.{◌≡◌, ◌≤◌, ◌<◌, ℕ, ◌+◌, ◌==◌, Bool, List, [], ◌∷◌, ◌++◌, length, take, drop, Option, inl, inr, refl, sym, ap, ◌∙◌, subst, arith}
use Rattle.std.proofs.Common.{append_assoc, drop_of_length-le}
use Rattle.std.proofs.lemmas.Bool.{cases_lt}
use Rattle.std.proofs.Math.Seq.{take-append-add, take-length}
use Rattle.std.proofs.KnownBytes.{Appends-nil, Appends-trans}
use Rattle.std.specs.Io.KnownBytes.{Appends, Keeps}
use Rattle.line_search.specs.LineMatchers.{LineMatcher}
use Rattle.line_search.specs.Lines.{SplitLine, numbered}
use Rattle.line_search.specs.Searchers.{Sought}
use Rattle.grep_core.specs.Blocks.{IsOver, counts_lines, reported_bytes}
use Rattle.grep_core.specs.LongLines.{WritesLines}
use Rattle.grep_core.specs.Report.{counted_as, report_as, selected}
use Rattle.grep_core.specs.Reporting.{with_needed_spans}
use Rattle.grep_core.specs.Selecting.{count_selected}
use Rattle.grep_core.specs.declared.progress.Progress.{Progress}
use Rattle.grep_core.specs.declared.progress.Task.{Task}
use Rattle.grep_core.specs.declared.separator_state.SeparatorState.{SeparatorState}
use Rattle.grep_core.proofs.ForCallers.{appends_kept, moved_by, same_report, taken_before}
use Rattle.text_report.specs.LineSpans.{split_at}
use Rattle.text_report.specs.Records.{ReportsRecords, WritesBeginning, records_left, records_of, report_records, selected_records}

-- no line is left at the end of a text
pub none_left : (t : Task) (text : List ℕ) (at : ℕ) → length text ≤ at → records_left t text at ≡ []
none_left t text at end = ap (split_at t.what.now.terminator) (drop_of_length-le text end)

-- one line: what was reported before it, with and without it
pub one_reported : (reports : Progress → List SplitLine → List ℕ) (p q : Progress) (now later : List SplitLine) (line : SplitLine) (old new : List ℕ) →
    now ≡ line ∷ later → ((lines : List SplitLine) → old ++ reports p (line ∷ lines) ≡ new ++ reports q lines) →
    old ++ reports p now ≡ new ++ reports q later
one_reported reports p q now later line old new split goes_on = ap (λ it. old ++ reports p it) split ∙ goes_on later

-- records after others
pub then_records : {t : Task} {s now : Sought} {o p q : Progress} {u w v text : List ℕ} {at next last : ℕ} → now ≡ s →
    ReportsRecords t s o p u w text at next → ReportsRecords t now p q w v text next last → ReportsRecords t s o q u v text at last
then_records same a b = record {
  on = omega (arith, a.on, b.on);
  within = b.within;
  goes_on = λ by. a.goes_on by ∙ b.goes_on (moved_by same by);
  counts = λ by. b.counts (moved_by same by) ∙ a.counts by;
}

module _ (t : Task) (f : LineMatcher) where
  abbrev bytes : Progress → List SplitLine → List ℕ
  bytes p lines = reported_bytes t f p lines

  -- nothing written yet
  pub none_begun : (p : Progress) (lines : List SplitLine) (w : Option (List ℕ)) → WritesBeginning t f p lines w w
  none_begun p lines w = (0, Appends-nil w)

  -- the output of some lines, which was empty before
  whole_out : (p q : Progress) (x y : List SplitLine) (empty shown out : List ℕ) → empty ≡ [] → shown ≡ out →
      empty ++ reported_bytes t f p x ≡ out ++ reported_bytes t f q y → reported_bytes t f p x ≡ shown ++ reported_bytes t f q y
  whole_out p q x y empty shown out none seen goes_on =
      ap (λ it. it ++ bytes p x) (sym none) ∙ goes_on ∙ ap (λ it. it ++ bytes q y) (sym seen)

  pub some_sent : (p q : Progress) (x y : List SplitLine) (empty shown out : List ℕ) (w v : Option (List ℕ)) → empty ≡ [] → shown ≡ out →
      empty ++ reported_bytes t f p x ≡ out ++ reported_bytes t f q y → counts_lines t f q y ≡ counts_lines t f p x →
      Appends w v shown → WritesLines t f p q x y w v
  some_sent p q x y empty shown out w v none seen goes_on counted written = record {
    sends = record { sent = shown; written = written; is = whole_out p q x y empty shown out none seen goes_on };
    counted = counted;
  }

  pub some_begun : (p q : Progress) (x y : List SplitLine) (empty shown out : List ℕ) (w v : Option (List ℕ)) → empty ≡ [] → shown ≡ out →
      empty ++ reported_bytes t f p x ≡ out ++ reported_bytes t f q y →
      (n : ℕ) × Appends w v (take n shown) → WritesBeginning t f p x w v
  some_begun p q x y empty shown out w v none seen goes_on part = (
    length (take part.0 shown),
    subst (Appends w v) (taken_before part.0 shown (bytes q y)
        ∙ ap (take (length (take part.0 shown))) (sym (whole_out p q x y empty shown out none seen goes_on))) part.1,
  )

  -- lines after others
  pub then_sent : (o p q : Progress) (x y z : List SplitLine) (u w v : Option (List ℕ)) → WritesLines t f o p x y u w →
      WritesLines t f p q y z w v → WritesLines t f o q x z u v
  then_sent o p q x y z u w v a b = record {
    sends = record {
      sent = a.sends.sent ++ b.sends.sent;
      written = Appends-trans u w v a.sends.sent b.sends.sent a.sends.written b.sends.written;
      is = a.sends.is ∙ ap (λ it. a.sends.sent ++ it) b.sends.is ∙ sym (append_assoc a.sends.sent b.sends.sent (bytes q z));
    };
    counted = b.counted ∙ a.counted;
  }

  pub then_begun : (o p : Progress) (x y : List SplitLine) (u w v : Option (List ℕ)) → WritesLines t f o p x y u w →
      WritesBeginning t f p y w v → WritesBeginning t f o x u v
  then_begun o p x y u w v a part = (
    length a.sends.sent + part.0,
    subst (Appends u v) (sym (take-append-add a.sends.sent (bytes p y) part.0) ∙ ap (take (length a.sends.sent + part.0)) (sym a.sends.is))
        (Appends-trans u w v a.sends.sent (take part.0 (bytes p y)) a.sends.written part.1),
  )

  -- all lines
  whole_begun : (p : Progress) (x : List SplitLine) (u v : Option (List ℕ)) → Appends u v (reported_bytes t f p x) → WritesBeginning t f p x u v
  whole_begun p x u v written = (length (bytes p x), subst (Appends u v) (sym (take-length (bytes p x))) written)

  -- after the last line, or one after which nothing more is printed
  module _ (p : Progress) (text : List ℕ) (at : ℕ) (over : at < length text → IsOver t p) where
    left_reported : reported_bytes t f p (records_left t text at) ≡ reported_bytes t f p []
    left_reported = elim (cases_lt at (length text)) [
      | inl low ↦ (over low).printed f (records_left t text at)
      | inr high ↦ ap (bytes p) (none_left t text at high)
    ]

    left_counted : counted_as t.what.now.print (counts_lines t f p (records_left t text at)) ≡ counted_as t.what.now.print (counts_lines t f p [])
    left_counted = elim (cases_lt at (length text)) [
      | inl low ↦ (over low).counted f (records_left t text at)
      | inr high ↦ ap (λ it. counted_as t.what.now.print (counts_lines t f p it)) (none_left t text at high)
    ]

    module _ (o : Progress) (x : List SplitLine) (u w : Option (List ℕ)) (sent : WritesLines t f o p x (records_left t text at) u w) where
      pub all_sent : (v s : Option (List ℕ)) → Appends w v (reported_bytes t f p []) → Keeps v s → Appends u s (reported_bytes t f o x)
      all_sent v s written kept =
          subst (Appends u s) (ap (λ it. sent.sends.sent ++ it) (sym left_reported) ∙ sym sent.sends.is)
          (Appends-trans u w s sent.sends.sent (bytes p []) sent.sends.written (appends_kept w v s (bytes p []) written kept))

      pub all_begun : (v s : Option (List ℕ)) → Appends w v (reported_bytes t f p []) → Keeps v s → WritesBeginning t f o x u s
      all_begun v s written kept = whole_begun o x u s (all_sent v s written kept)

      pub end_begun : (v : Option (List ℕ)) → (n : ℕ) × Appends w v (take n (reported_bytes t f p [])) → WritesBeginning t f o x u v
      end_begun v part = then_begun o p x (records_left t text at) u w v sent
          (part.0, subst (λ it. Appends w v (take part.0 it)) (sym left_reported) part.1)

      pub all_counted : counted_as t.what.now.print (counts_lines t f p []) ≡ counted_as t.what.now.print (counts_lines t f o x)
      all_counted = sym left_counted ∙ ap (counted_as t.what.now.print) sent.counted

-- the whole text
module _ (t : Task) (f : LineMatcher) (known : SeparatorState) (p : Progress) (text : List ℕ) where
  abbrev pub Starts : Type 0
  Starts = reported_bytes t (with_needed_spans t.what.now f) p (records_left t text 0)
      ≡ report_as t.what.now.print t.what.now (with_needed_spans t.what.now f) t.name.now t.with_name known (records_of t.what.now text)
      (selected t.what.now (with_needed_spans t.what.now f) (records_of t.what.now text))

  whole : Starts → reported_bytes t (with_needed_spans t.what.now f) p (records_left t text 0)
      ≡ report_records t.what.now f t.name.now t.with_name known text
  whole starts =
      starts ∙ same_report t.what.now.print t.what.now f t.name.now t.with_name known (records_of t.what.now text) refl

  pub text_reported : (u v : Option (List ℕ)) → Starts →
      Appends u v (reported_bytes t (with_needed_spans t.what.now f) p (records_left t text 0)) →
      Appends u v (report_records t.what.now f t.name.now t.with_name known text)
  text_reported u v starts written = subst (Appends u v) (whole starts) written

  pub text_begun : (u v : Option (List ℕ)) → Starts →
      WritesBeginning t (with_needed_spans t.what.now f) p (records_left t text 0) u v →
      (n : ℕ) × Appends u v (take n (report_records t.what.now f t.name.now t.with_name known text))
  text_begun u v starts part = (part.0, subst (λ l. Appends u v (take part.0 l)) (whole starts) part.1)

  pub text_counted : (n last : ℕ) →
      counts_lines t (with_needed_spans t.what.now f) p (records_left t text 0)
      ≡ count_selected (selected t.what.now (with_needed_spans t.what.now f) (records_of t.what.now text)) → n ≡ last →
      last ≡ counted_as t.what.now.print (counts_lines t (with_needed_spans t.what.now f) p (records_left t text 0)) →
      n ≡ counted_as t.what.now.print (selected_records t.what.now f text)
  text_counted n last starts is rest = is ∙ rest ∙ ap (counted_as t.what.now.print) starts
