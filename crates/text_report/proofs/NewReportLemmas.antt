-- What is printed for a text whose matches are replaced, piece by piece.
use Rattle.std.proofs.Common.{◌≡◌, ◌≤◌, ◌<◌, ℕ, suc, ◌+◌, Bool, not, List, [], ◌∷◌, ◌++◌, length, map, take, drop, get_or, Option, Some}
use Rattle.std.proofs.Common.{refl, sym, ap, ap₂, ◌∙◌, subst, arith, append_assoc, if◌then◌else◌}
use Rattle.std.proofs.KnownBytes.{Appends-nil, Appends-trans}
use Rattle.std.proofs.Math.Seq.{drop-cons, take-append-add}
use Rattle.std.specs.Io.KnownBytes.{Appends}
use Rattle.search_types.specs.declared.span.Span.{Span}
use Rattle.line_search.specs.LineMatchers.{span_pair}
use Rattle.grep_core.proofs.ForCallers.{one_counted, taken_before}
use Rattle.grep_core.specs.ContextPrinting.{Item, print_item, still}
use Rattle.grep_core.specs.Report.{after_of, before_of, first_of, print_lines, roles_of}
use Rattle.grep_core.specs.Reporting.{counts_matches, left_of, number_of, reported_lines}
use Rattle.grep_core.specs.Selecting.{count_selected, roles_from}
use Rattle.grep_core.specs.declared.reporter.Reporter.{Reporter}
use Rattle.grep_core.specs.declared.separator_state.SeparatorState.{SeparatorState}
use Rattle.text_report.specs.EventCourse.{IsCutOff, IsHeld, groups_left, task_with}
use Rattle.text_report.specs.Records.{records_of}
use Rattle.text_report.specs.ReplacedProgress.{WritesNew, WritesNewPart, flags_for, groups_to_come, items_for, reported_items, report_left}
use Rattle.text_report.specs.ReplacedText.{text_groups, new_flags, new_items, report_new}
use Rattle.text_report.specs.TextEvents.{EventLines, event_lines, touched_lines}
use Rattle.text_report.specs.TextProgress.{matches_of_task, reported_left}
use Rattle.text_report.specs.TextReports.{is_wanted_in}
use Rattle.text_report.specs.declared.replacing.NewProgress.{NewProgress}
use Rattle.text_report.specs.declared.replacing.NewTask.{NewTask}
use Rattle.text_report.specs.declared.reporting.TextTask.{TextTask}
use Rattle.text_report.specs.declared.turns.Turn.{Turn}
use Rattle.text_report.proofs.EventLineLemmas.{none_grouped}
use Rattle.text_report.proofs.ReportLemmas.{all_items, none_limited, none_yet}

-- ---- what was written
module _ (t : NewTask) where
  abbrev left : NewProgress → List ℕ
  left p = report_left t p.telling (groups_to_come t p)

  pub none_written : (p : NewProgress) (w : Option (List ℕ)) (out : List ℕ) → p.written ≡ 0 → out ≡ [] → WritesNew t w w out p p
  none_written p w out zero none = record {
    all = [];
    are_held = record { done = []; appended = Appends-nil w; counted = zero; late = λ e. refl; are = sym none };
    printed = refl;
  }

  module _ (start a : Option (List ℕ)) (held : List ℕ) (o p : NewProgress) (pr : WritesNew t start a held o p) where
    abbrev done : List ℕ
    done = pr.are_held.done

    module _ (more : List ℕ) (q : NewProgress) (same : q.written ≡ p.written) (goes_on : held ++ left p ≡ more ++ left q) where
      pub more_held : IsHeld start a (done ++ more) more q.written 1
      more_held = record {
        done = done;
        appended = pr.are_held.appended;
        counted = same ∙ pr.are_held.counted;
        late = pr.are_held.late;
        are = refl;
      }

      pub more_printed : left o ≡ (done ++ more) ++ left q
      more_printed =
          pr.printed
          ∙ ap (λ l. l ++ left p) pr.are_held.are
          ∙ append_assoc done held (left p)
          ∙ ap (λ l. done ++ l) goes_on
          ∙ sym (append_assoc done more (left q))

    module _ (b : Option (List ℕ)) (none : groups_to_come t p ≡ []) where
      abbrev last : List ℕ
      last = held ++ reported_items t.task p.telling [] []

      all_is : left o ≡ done ++ last
      all_is =
          pr.printed
          ∙ ap₂ (λ l gs. l ++ report_left t p.telling gs) pr.are_held.are none
          ∙ append_assoc done held (reported_items t.task p.telling [] [])

      pub all_written : Appends a b last → Appends start b (left o)
      all_written rest = subst (Appends start b) (sym all_is) (Appends-trans start a b done last pr.are_held.appended rest)

      pub all_part : (n : ℕ) × Appends a b (take n last) → WritesNewPart t o start b
      all_part part = (
        length done + part.0,
        subst (Appends start b) (sym (take-append-add done last part.0) ∙ ap (take (length done + part.0)) (sym all_is))
            (Appends-trans start a b done (take part.0 last) pr.are_held.appended part.1),
      )

  -- after an error
  pub cut_new : (o p : NewProgress) (all : List ℕ) (start now : Option (List ℕ)) → left o ≡ all ++ left p → IsCutOff start now all 1 →
      WritesNewPart t o start now
  cut_new o p all start now printed cut = (
    length (take cut.size all),
    subst (Appends start now) (taken_before cut.size all (left p) ∙ ap (take (length (take cut.size all))) (sym printed)) cut.appended,
  )

  -- after the last line
  pub none_to_come : (p : NewProgress) → length t.task.text.now ≤ p.at → groups_to_come t p ≡ []
  none_to_come p past =
      none_grouped (not t.task.what.now.invert)
      (roles_from (before_of t.task.what.now.context) (after_of t.task.what.now.context) p.turn.left (drop p.turn.index t.flags.now))
      t.task.what.now.terminator t.task.text.now (p.turn.index + 1) p.at past

-- ---- the end
module _ (t : TextTask) (r : Reporter) (out : List ℕ) where
  last_is : reported_left t r [] ≡ reported_items t r [] []
  last_is = ap (λ flags. reported_items t r flags []) (none_limited t (left_of t.what.now.most r.count))

  abbrev rest : List ℕ
  rest = out ++ reported_items t r [] []

  pub rest_written : (a b c : Option (List ℕ)) → Appends a b out → Appends b c (reported_left t r []) → Appends a c rest
  rest_written a b c one two = Appends-trans a b c out (reported_items t r [] []) one (subst (Appends b c) last_is two)

  pub rest_cut : (a b : Option (List ℕ)) → (n : ℕ) × Appends a b (take n out) → (n : ℕ) × Appends a b (take n rest)
  rest_cut a b part = (length (take part.0 out), subst (Appends a b) (taken_before part.0 out (reported_items t r [] [])) part.1)

  pub rest_part : (a b c : Option (List ℕ)) → Appends a b out → (n : ℕ) × Appends b c (take n (reported_left t r [])) →
      (n : ℕ) × Appends a c (take n rest)
  rest_part a b c one part = (
    length out + part.0,
    subst (Appends a c) (sym (take-append-add out (reported_items t r [] []) part.0))
        (Appends-trans a b c out (take part.0 (reported_items t r [] [])) one
        (subst (λ l. Appends b c (take part.0 l)) last_is part.1)),
  )

-- ---- before the first line
module _ (t : NewTask) (known : SeparatorState) (r : Reporter) (first next : ℕ) (first_is : first ≡ first_of t.task.what.now.context)
    (none : r.count ≡ 0) (none_matched : r.matches ≡ 0)
    (prints : (name : Option (List ℕ)) (flags : List Bool) (items : List Item) →
    still t.task.what.now name r.course flags items
    ≡ print_lines t.task.what.now (print_item t.task.what.now name) known (roles_of t.task.what.now flags) items)
    (flags_are : t.flags.now ≡ touched_lines t.task.what.now (matches_of_task t.task) t.task.text.now) where
  abbrev groups_by : ℕ → List Bool → List EventLines
  groups_by n flags =
      event_lines (not t.task.what.now.invert) (roles_from (before_of t.task.what.now.context) (after_of t.task.what.now.context) n flags)
      (records_of t.task.what.now t.task.text.now)

  abbrev printed_by : ℕ → List EventLines → List ℕ
  printed_by n gs =
      reported_lines t.task.what.now.print t.task.what.now t.task.name.now t.task.with_name r.course n (flags_for t gs) (items_for t gs)

  pub starts_new : (p : NewProgress) → p ≡ record { at = 0; first = 0; turn = record { index = 0; left = first; next = next }; telling = r; written = 0 } →
      report_left t p.telling (groups_to_come t p)
      ≡ report_new t.task.what.now t.task.crlf t.task.name.now t.task.with_name known t.bytes.now (matches_of_task t.task)
      (map span_pair t.spans.now) t.task.text.now
  starts_new p is =
      ap (λ (q : NewProgress). report_left t q.telling (groups_to_come t q)) is
      ∙ ap₂ (λ n flags. printed_by (number_of t.task.what.now.print r) (groups_by n flags)) first_is flags_are
      ∙ ap (λ n. printed_by n (text_groups t.task.what.now (matches_of_task t.task) t.task.text.now))
      (none_yet (counts_matches t.task.what.now.print) r.matches r.count none_matched none)
      ∙ all_items t.task.what.now t.task.name.now t.task.with_name known r.course prints
      (flags_for t (text_groups t.task.what.now (matches_of_task t.task) t.task.text.now))
      (items_for t (text_groups t.task.what.now (matches_of_task t.task) t.task.text.now)) t.task.what.now.print

-- ---- the number of selected lines
pub flag_counted : (flags : List Bool) (k : ℕ) (d : Bool) → k < length flags → (count more total : ℕ) →
    more ≡ count + (if get_or flags k d then 1 else 0) → count + count_selected (drop k flags) ≡ total →
    more + count_selected (drop (k + 1) flags) ≡ total
flag_counted flags k d below count more total is was =
    let next : suc k ≡ k + 1 = omega arith in
    ap₂ (λ m n. m + count_selected (drop n flags)) is (sym next)
    ∙ one_counted (get_or flags k d) count (drop (suc k) flags)
    ∙ sym (ap (λ l. count + count_selected l) (drop-cons flags k d below))
    ∙ was
