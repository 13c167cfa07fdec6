-- What is printed for lines that come of replaced ones, line by line.
use Rattle.std.proofs.Common.{◌≡◌, ◌≤◌, ◌<◌, ℕ, ◌+◌, ◌&&◌, ◌||◌, Bool, true, false, not, cond, List, [], ◌∷◌, ◌++◌, length, map, refl, sym, ap, ap₂, ◌∙◌, subst, drop_of_length-le}
use Rattle.std.specs.List.{filter, flat_map}
use Rattle.std.proofs.lemmas.List.Concat.{flat_map-cons}
use Rattle.line_search.specs.LineMatchers.{span_pair}
use Rattle.line_search.specs.Lines.{TextLine}
use Rattle.grep_core.specs.ContextPrinting.{Item}
use Rattle.grep_core.specs.Reporting.{number_of, reported_lines}
use Rattle.grep_core.specs.declared.reporter.Reporter.{Reporter}
use Rattle.text_report.specs.EventCourse.{group_of}
use Rattle.text_report.specs.LineSpans.{IsLineAt, line_of, lines_from, whole_end}
use Rattle.text_report.specs.ReplacedProgress.{AreLinesOf, ReportsNew, flags_for, items_for, reported_items, kept_flags, kept_items, kept_lines, new_left, report_left}
use Rattle.text_report.specs.ReplacedText.{keeps_line, new_flags, new_item, new_items}
use Rattle.text_report.specs.TextEvents.{EventLines, is_selected}
use Rattle.text_report.specs.TextProgress.{matches_of_task}
use Rattle.text_report.specs.TextReports.{by_starts}
use Rattle.text_report.specs.Touching.{has_match_of}
use Rattle.text_report.specs.declared.event_lines.Group.{Group}
use Rattle.text_report.specs.declared.lines.LineSpan.{LineSpan}
use Rattle.text_report.specs.declared.replaced_lines.NewLines.{NewLines}
use Rattle.text_report.specs.declared.replacing.NewTask.{NewTask}
use Rattle.text_report.specs.declared.reporting.TextTask.{TextTask}
use Rattle.text_report.specs.declared.text_lines.TextPosition.{TextPosition}
use Rattle.text_report.proofs.LineLemmas.{none_from}

-- ---- whether a line is printed
module _ (a : NewLines) (line : TextLine) (rest : List TextLine) where
  abbrev kept : Bool
  kept = keeps_line a.task.what.now a.is_selected (matches_of_task a.task) line

  kept_by : (b : Bool) → kept ≡ b → kept_lines a (line ∷ rest) ≡ cond b (line ∷ kept_lines a rest) (kept_lines a rest)
  kept_by b e = ap (λ v. cond v (line ∷ kept_lines a rest) (kept_lines a rest)) e

  is_by : (k has : Bool) → k ≡ (not (by_starts a.task.what.now && a.is_selected) || has) →
      has ≡ has_match_of true (matches_of_task a.task) line → k ≡ kept
  is_by k has is h = is ∙ ap (λ x. not (by_starts a.task.what.now && a.is_selected) || x) h

  abbrev items_from : List TextLine → List Item
  items_from lines = map (new_item a.task.what.now a.task.crlf (matches_of_task a.task) a.place a.start) lines

  pub line_dropped : (k has : Bool) → k ≡ (not (by_starts a.task.what.now && a.is_selected) || has) →
      has ≡ has_match_of true (matches_of_task a.task) line → k ≡ false → (r : Reporter) (out : List ℕ) →
      ReportsNew a (line ∷ rest) rest r r out out
  line_dropped k has is h e r out flags items =
      let none : kept_lines a (line ∷ rest) ≡ kept_lines a rest = kept_by false (sym (is_by k has is h) ∙ e) in
      ap (λ ls. out ++ reported_items a.task r (map (λ _. a.is_selected) (items_from ls) ++ flags) (items_from ls ++ items)) none

  pub line_kept : (k has : Bool) → k ≡ (not (by_starts a.task.what.now && a.is_selected) || has) →
      has ≡ has_match_of true (matches_of_task a.task) line → k ≡ true → (r q : Reporter) (out new : List ℕ) →
      ((flags : List Bool) (items : List Item) → out ++ reported_items a.task r (a.is_selected ∷ flags)
      (new_item a.task.what.now a.task.crlf (matches_of_task a.task) a.place a.start line ∷ items) ≡ new ++ reported_items a.task q flags items) →
      ReportsNew a (line ∷ rest) rest r q out new
  line_kept k has is h e r q out new goes_on flags items =
      let one : kept_lines a (line ∷ rest) ≡ line ∷ kept_lines a rest = kept_by true (sym (is_by k has is h) ∙ e) in
      ap (λ ls. out ++ reported_items a.task r (map (λ _. a.is_selected) (items_from ls) ++ flags) (items_from ls ++ items)) one
      ∙ goes_on (kept_flags a rest ++ flags) (kept_items a rest ++ items)

-- ---- the next line
pub next_new : (a : NewLines) (at next : TextPosition) (line : LineSpan) →
    IsLineAt a.task.what.now.terminator a.task.text.now at.number at.place line → next.number ≡ line.number + 1 → next.place ≡ whole_end line →
    new_left a at ≡ line_of a.task.text.now line ∷ new_left a next
next_new a at next line is number place =
    is.next
    ∙ ap₂ (λ n k. line_of a.task.text.now line ∷ lines_from a.task.what.now.terminator a.task.text.now n k)
    (ap (λ n. n + 1) (sym is.numbered_so) ∙ sym number) (sym place)

pub reports_next : (a : NewLines) (first next : List TextLine) (line : TextLine) (r q : Reporter) (out new : List ℕ) → first ≡ line ∷ next →
    ReportsNew a (line ∷ next) next r q out new → ReportsNew a first next r q out new
reports_next a first next line r q out new is reports flags items =
    ap (λ ls. out ++ reported_items a.task r (kept_flags a ls ++ flags) (kept_items a ls ++ items)) is ∙ reports flags items

pub no_new : (a : NewLines) (lines : List TextLine) (r : Reporter) (out : List ℕ) → ReportsNew a lines lines r r out out
no_new a lines r out flags items = refl

pub then_new : (a : NewLines) (x y z : List TextLine) (r p q : Reporter) (out on new : List ℕ) → ReportsNew a x y r p out on →
    ReportsNew a y z p q on new → ReportsNew a x z r q out new
then_new a x y z r p q out on new one two flags items = one flags items ∙ two flags items

pub new_ended : (a : NewLines) (x : List TextLine) (r q : Reporter) (out new : List ℕ) (at : TextPosition) → length a.task.text.now ≤ at.place →
    ReportsNew a x (new_left a at) r q out new → ReportsNew a x [] r q out new
new_ended a x r q out new at past reports flags items =
    reports flags items
    ∙ ap (λ ls. new ++ reported_items a.task q (kept_flags a ls ++ flags) (kept_items a ls ++ items))
    (none_from a.task.what.now.terminator a.task.text.now at.number at.place (drop_of_length-le a.task.text.now past))

-- ---- all lines that come of some lines
module _ (t : NewTask) (g : Group) (a : NewLines) (are : AreLinesOf t g a) where
  same_left : (r : Reporter) (flags : List Bool) (items : List Item) → reported_items a.task r flags items ≡ reported_items t.task r flags items
  same_left r flags items = λ i.
      reported_lines (are.what i).now.print (are.what i).now (are.name i).now (are.with_name i) r.course (number_of (are.what i).now.print r)
      flags items

  abbrev lines_there : List TextLine
  lines_there = lines_from a.task.what.now.terminator a.task.text.now g.first.number a.start

  same_items : kept_items a lines_there
      ≡ new_items t.task.what.now t.task.crlf t.bytes.now (matches_of_task t.task) (map span_pair t.spans.now) (group_of t.task.text.now g)
  same_items = λ i.
      map (new_item (are.what i).now (are.crlf i) (are.found i) (are.place i) (are.start i))
      (filter (keeps_line (are.what i).now (are.selected i) (are.found i))
      (lines_from (are.what i).now.terminator (are.text i) g.first.number (are.start i)))

  same_flags : kept_flags a lines_there
      ≡ new_flags t.task.what.now t.task.crlf t.bytes.now (matches_of_task t.task) (map span_pair t.spans.now) (group_of t.task.text.now g)
  same_flags = ap₂ (λ (s : Bool) (items : List Item). map (λ _. s) items) are.selected same_items

  pub group_reported : (r q : Reporter) (out new : List ℕ) → ReportsNew a lines_there [] r q out new → (rest : List EventLines) →
      out ++ report_left t r (group_of t.task.text.now g ∷ rest) ≡ new ++ report_left t q rest
  group_reported r q out new reports rest =
      ap₂ (λ flags items. out ++ reported_items t.task r flags items)
      (flat_map-cons (new_flags t.task.what.now t.task.crlf t.bytes.now (matches_of_task t.task) (map span_pair t.spans.now))
      (group_of t.task.text.now g) rest)
      (flat_map-cons (new_items t.task.what.now t.task.crlf t.bytes.now (matches_of_task t.task) (map span_pair t.spans.now))
      (group_of t.task.text.now g) rest)
      ∙ sym (ap₂ (λ flags items. out ++ reported_items t.task r (flags ++ flags_for t rest) (items ++ items_for t rest)) same_flags same_items)
      ∙ sym (ap (λ l. out ++ l) (same_left r (kept_flags a lines_there ++ flags_for t rest) (kept_items a lines_there ++ items_for t rest)))
      ∙ reports (flags_for t rest) (items_for t rest)
      ∙ ap (λ l. new ++ l) (same_left q (flags_for t rest) (items_for t rest))
