-- What is still to be printed for a text goes on by one line, and by several.
use Rattle.std.proofs.Common.{◌≡◌, ℕ, zero, suc, ◌+◌, ◌==◌, ◌&&◌, Bool, true, false, List, [], ◌∷◌, ◌++◌, length, map, take}
use Rattle.std.proofs.Common.{Option, Some, None, refl, sym, ap, ap₂, ◌∙◌, subst, arith, append_assoc, nat_lt, if◌then◌else◌}
use Rattle.std.proofs.KnownBytes.{Appends-nil, Appends-trans}
use Rattle.std.proofs.Math.Seq.{take-append-add, take-length}
use Rattle.std.specs.Io.KnownBytes.{Appends, Keeps}
use Rattle.line_search.specs.LineMatchers.{LineMatcher}
use Rattle.line_search.specs.Lines.{TextLine, ended, numbered, put_first, split_lines, text_lines}
use Rattle.grep_core.proofs.ForCallers.{appends_kept, left_none, limited_step, none_before, one_counted, taken_before}
use Rattle.grep_core.specs.ContextPrinting.{Item, print_item, still}
use Rattle.grep_core.specs.Report.{count_line, name_line, print_lines, roles_of}
use Rattle.grep_core.specs.Reporting.{counts_matches, left_of, matches_in, may_select, reported_lines, shown}
use Rattle.grep_core.specs.Selecting.{count_selected, limited}
use Rattle.grep_core.specs.declared.context_printer.ContextPrinter.{ContextPrinter}
use Rattle.grep_core.specs.declared.output_options.OutputOptions.{OutputOptions}
use Rattle.grep_core.specs.declared.output_options.Print.{Print}
use Rattle.grep_core.specs.declared.output_options.Print.TheVariants.{Lines, Matches, Count, CountMatches, NameIfAny, NameIfNone, Nothing}
use Rattle.grep_core.specs.declared.separator_state.SeparatorState.{SeparatorState}
use Rattle.text_report.proofs.SeenLemmas.{still_before}
use Rattle.text_report.specs.LineSpans.{IsLineAt, line_of, lines_from, split_at, whole_end}
use Rattle.text_report.specs.TextProgress.{ReportsLines, WritesTextLines, WritesPrefix, count_left, flags_left, matches_of_task, lines_left, reported_left}
use Rattle.text_report.specs.TextReports.{is_wanted_in, text_item, report_items}
use Rattle.text_report.specs.Touching.{AreBefore}
use Rattle.text_report.specs.declared.lines.LineSpan.{LineSpan}
use Rattle.text_report.specs.declared.reporting.TextProgress.{TextProgress}
use Rattle.text_report.specs.declared.reporting.TextTask.{TextTask}

-- ---- one line
module _ (w : OutputOptions) (n m : ℕ) (sel : Bool) (W : TextLine → Bool) (own : TextLine) (selects : sel ≡ (W own && may_select w.most n))
    (more : m ≡ n + (if sel then 1 else 0)) (lines : List TextLine) where
  flags_on : limited (left_of w.most n) (map W (own ∷ lines)) ≡ sel ∷ limited (left_of w.most m) (map W lines)
  flags_on =
      limited_step w.most n (W own) (map W lines)
      ∙ ap (λ t. t ∷ limited (left_of w.most (n + (if t then 1 else 0))) (map W lines)) (sym selects)
      ∙ ap (λ j. sel ∷ limited (left_of w.most j) (map W lines)) (sym more)

  pub line_counts : m + count_selected (limited (left_of w.most m) (map W lines))
      ≡ n + count_selected (limited (left_of w.most n) (map W (own ∷ lines)))
  line_counts =
      ap (λ j. j + count_selected (limited (left_of w.most m) (map W lines))) more
      ∙ one_counted sel n (limited (left_of w.most m) (map W lines))
      ∙ sym (ap (λ flags. n + count_selected flags) flags_on)

  pub line_goes_on : (p : Print) (name : List ℕ) (with_name : Bool) (c after : ContextPrinter) (k l : ℕ) (I : TextLine → Item) (it : Item) →
      it ≡ I own → (out new : List ℕ) → ((flags : List Bool) (items : List Item) →
      out ++ reported_lines p w name with_name c k (sel ∷ flags) (it ∷ items) ≡ new ++ reported_lines p w name with_name after l flags items) →
      out ++ reported_lines p w name with_name c k (limited (left_of w.most n) (map W (own ∷ lines))) (map I (own ∷ lines))
      ≡ new ++ reported_lines p w name with_name after l (limited (left_of w.most m) (map W lines)) (map I lines)
  line_goes_on p name with_name c after k l I it is out new goes_on =
      ap₂ (λ flags i. out ++ reported_lines p w name with_name c k flags (i ∷ map I lines)) flags_on (sym is)
      ∙ goes_on (limited (left_of w.most m) (map W lines)) (map I lines)

-- ---- lines after each other
module _ (t : TextTask) where
  abbrev lasts : TextProgress → List ℕ
  lasts p = reported_left t p.telling (lines_left t p)

  pub reports_none : (p : TextProgress) (out : List ℕ) → AreBefore t.found.now p.at.first p.at.place → ReportsLines t p p out out
  reports_none p out before = record { printed = refl; counted = refl; are_before = before }

  pub reports_one : (o p : TextProgress) (line : LineSpan) (x y : List ℕ) → IsLineAt 10 t.text.now o.at.number o.at.place line →
      p.at.number ≡ line.number + 1 → p.at.place ≡ whole_end line → AreBefore t.found.now p.at.first line.start →
      ((lines : List TextLine) → x ++ reported_left t o.telling (line_of t.text.now line ∷ lines) ≡ y ++ reported_left t p.telling lines) →
      ((lines : List TextLine) → count_left t p.telling lines ≡ count_left t o.telling (line_of t.text.now line ∷ lines)) →
      ReportsLines t o p x y
  reports_one o p line x y at number place before printed counted =
      let next : lines_from 10 t.text.now (o.at.number + 1) (whole_end line) ≡ lines_left t p =
      ap₂ (λ n k. lines_from 10 t.text.now n k) (ap (λ n. n + 1) (sym at.numbered_so) ∙ sym number) (sym place) in
      let left : lines_left t o ≡ line_of t.text.now line ∷ lines_left t p =
      at.next ∙ ap (λ lines. line_of t.text.now line ∷ lines) next in
      record {
        printed = ap (λ lines. x ++ reported_left t o.telling lines) left ∙ printed (lines_left t p);
        counted = counted (lines_left t p) ∙ sym (ap (count_left t o.telling) left);
        are_before = still_before t.found.now p.at.first line.start p.at.place (omega (arith, at.forward, place)) before;
      }

  -- ---- what was written
  pub writes_none : (p : TextProgress) (w : Option (List ℕ)) → AreBefore t.found.now p.at.first p.at.place → WritesTextLines t p p w w
  writes_none p w before = record { reported = []; written = Appends-nil w; printed = refl; counted = refl; are_before = before }

  pub part_out : (o p : TextProgress) (empty out all : List ℕ) (w v : Option (List ℕ)) → empty ≡ [] → all ≡ out →
      ReportsLines t o p empty out → (n : ℕ) × Appends w v (take n all) → WritesPrefix t o w v
  part_out o p empty out all w v none same r written = (
    length (take written.0 out),
    subst (Appends w v)
        (ap (take written.0) same ∙ taken_before written.0 out (lasts p)
        ∙ ap (take (length (take written.0 out))) (sym (sym (ap (λ l. l ++ lasts o) none) ∙ r.printed))) written.1,
  )

  pub no_part : (p : TextProgress) (w : Option (List ℕ)) → WritesPrefix t p w w
  no_part p w = (0, Appends-nil w)

  pub then_writes : (o p q : TextProgress) (u w v : Option (List ℕ)) → WritesTextLines t o p u w → WritesTextLines t p q w v → WritesTextLines t o q u v
  then_writes o p q u w v a b = record {
    reported = a.reported ++ b.reported;
    written = Appends-trans u w v a.reported b.reported a.written b.written;
    printed = a.printed ∙ ap (λ l. a.reported ++ l) b.printed ∙ sym (append_assoc a.reported b.reported (lasts q));
    counted = b.counted ∙ a.counted;
    are_before = b.are_before;
  }

  pub then_part : (o p : TextProgress) (u w v : Option (List ℕ)) → WritesTextLines t o p u w → WritesPrefix t p w v → WritesPrefix t o u v
  then_part o p u w v a part = (
    length a.reported + part.0,
    subst (Appends u v) (sym (take-append-add a.reported (lasts p) part.0) ∙ ap (take (length a.reported + part.0)) (sym a.printed))
        (Appends-trans u w v a.reported (take part.0 (lasts p)) a.written part.1),
  )

  pub writes_part : (o p : TextProgress) (u w : Option (List ℕ)) → WritesTextLines t o p u w → WritesPrefix t o u w
  writes_part o p u w a = then_part o p u w w a (no_part p w)

  -- ---- after the last line
  pub ends_written : (o p : TextProgress) (u w v : Option (List ℕ)) → WritesTextLines t o p u w → lines_left t p ≡ [] →
      Appends w v (reported_left t p.telling []) → Appends u v (lasts o)
  ends_written o p u w v a none last =
      subst (Appends u v) (sym (a.printed ∙ ap (λ lines. a.reported ++ reported_left t p.telling lines) none))
      (Appends-trans u w v a.reported (reported_left t p.telling []) a.written last)

  pub ends_part : (o p : TextProgress) (u w v : Option (List ℕ)) → WritesTextLines t o p u w → lines_left t p ≡ [] →
      (n : ℕ) × Appends w v (take n (reported_left t p.telling [])) → WritesPrefix t o u v
  ends_part o p u w v a none part =
      then_part o p u w v a (part.0, subst (λ lines. Appends w v (take part.0 (reported_left t p.telling lines))) (sym none) part.1)

  pub none_limited : (most : Option ℕ) → limited most [] ≡ []
  none_limited None = refl
  none_limited (Some zero) = refl
  none_limited (Some (suc n)) = refl

  pub counted_all : (o p : TextProgress) (u w : Option (List ℕ)) → WritesTextLines t o p u w → lines_left t p ≡ [] →
      p.telling.count ≡ count_left t o.telling (lines_left t o)
  counted_all o p u w a none =
      let zeroth : p.telling.count + 0 ≡ p.telling.count = omega arith in
      sym zeroth
      ∙ sym (ap (λ flags. p.telling.count + count_selected flags) (none_limited (left_of t.what.now.most p.telling.count)))
      ∙ sym (ap (count_left t p.telling) none)
      ∙ a.counted

-- what is printed after the last line is printed whatever finds matches in lines
abbrev pub any_matcher : LineMatcher
any_matcher = record { has_match = λ _. false; spans = λ _. []; replaced = λ _ line. record { content = line; spans = [] } }

module _ (empty out all last : List ℕ) (w v : Option (List ℕ)) (none : empty ≡ []) (told : out ≡ empty ++ last) (same : all ≡ out) where
  all_last : all ≡ last
  all_last = same ∙ told ∙ ap (λ l. l ++ last) none

  pub last_written : (u : Option (List ℕ)) → Appends w v all → Keeps v u → Appends w u last
  last_written u written kept = appends_kept w v u last (subst (Appends w v) all_last written) kept

  pub last_part : (n : ℕ) × Appends w v (take n all) → (n : ℕ) × Appends w v (take n last)
  last_part part = (part.0, subst (λ l. Appends w v (take part.0 l)) all_last part.1)

  pub last_whole : (u : Option (List ℕ)) → Appends w v all → Keeps v u → (n : ℕ) × Appends w u (take n last)
  last_whole u written kept = (length last, subst (Appends w u) (sym (take-length last)) (last_written u written kept))

-- ---- before the first line
pub split_at_ten : (text : List ℕ) → split_at 10 text ≡ split_lines text
split_at_ten [] = refl
split_at_ten (b ∷ bs) = ap (λ lines. if b == 10 then ended [] ∷ lines else put_first b lines) (split_at_ten bs)

pub all_lines : (text : List ℕ) → lines_from 10 text 1 0 ≡ text_lines text
all_lines text = ap (numbered 1 0) (split_at_ten text)

module _ (w : OutputOptions) (name : List ℕ) (with_name : Bool) (known : SeparatorState) (c : ContextPrinter)
    (prints : (name : Option (List ℕ)) (flags : List Bool) (items : List Item) →
    still w name c flags items ≡ print_lines w (print_item w name) known (roles_of w flags) items) (flags : List Bool) (items : List Item) where
  pub all_items : (p : Print) → reported_lines p w name with_name c 0 flags items ≡ report_items p w name with_name known flags items
  all_items Lines = prints (shown with_name name) flags items
  all_items Matches = prints (shown with_name name) flags items
  all_items Count = ap (count_line w (shown with_name name)) (none_before (count_selected flags))
  all_items CountMatches = ap (count_line w (shown with_name name)) (none_before (matches_in flags items))
  all_items NameIfAny = ap (λ n. if nat_lt 0 n then name_line w name else []) (none_before (count_selected flags))
  all_items NameIfNone = ap (λ n. if nat_lt 0 n then [] else name_line w name) (none_before (count_selected flags))
  all_items Nothing = refl

pub none_yet : (b : Bool) (m n : ℕ) → m ≡ 0 → n ≡ 0 → (if b then m else n) ≡ 0
none_yet true m n first second = first
none_yet false m n first second = second

module _ (t : TextTask) (known : SeparatorState) (p : TextProgress) (first : p.at.number ≡ 1) (start : p.at.place ≡ 0)
    (none : p.telling.count ≡ 0) (none_matched : p.telling.matches ≡ 0)
    (prints : (name : Option (List ℕ)) (flags : List Bool) (items : List Item) →
    still t.what.now name p.telling.course flags items
    ≡ print_lines t.what.now (print_item t.what.now name) known (roles_of t.what.now flags) items) where
  lines_there : lines_left t p ≡ text_lines t.text.now
  lines_there = ap₂ (λ n k. lines_from 10 t.text.now n k) first start ∙ all_lines t.text.now

  flags_there : (lines : List TextLine) → flags_left t p.telling.count lines
      ≡ limited t.what.now.most (map (is_wanted_in t.what.now (matches_of_task t)) lines)
  flags_there lines =
      ap (λ most. limited most (map (is_wanted_in t.what.now (matches_of_task t)) lines))
      (ap (left_of t.what.now.most) none ∙ left_none t.what.now.most)

  pub starts_text : reported_left t p.telling (lines_left t p)
      ≡ report_items t.what.now.print t.what.now t.name.now t.with_name known
      (limited t.what.now.most (map (is_wanted_in t.what.now (matches_of_task t)) (text_lines t.text.now)))
      (map (text_item t.what.now t.crlf (matches_of_task t)) (text_lines t.text.now))
  starts_text =
      ap (reported_left t p.telling) lines_there
      ∙ ap₂ (λ n flags. reported_lines t.what.now.print t.what.now t.name.now t.with_name p.telling.course n flags
      (map (text_item t.what.now t.crlf (matches_of_task t)) (text_lines t.text.now)))
      (none_yet (counts_matches t.what.now.print) p.telling.matches p.telling.count none_matched none) (flags_there (text_lines t.text.now))
      ∙ all_items t.what.now t.name.now t.with_name known p.telling.course prints
      (limited t.what.now.most (map (is_wanted_in t.what.now (matches_of_task t)) (text_lines t.text.now)))
      (map (text_item t.what.now t.crlf (matches_of_task t)) (text_lines t.text.now)) t.what.now.print

  pub starts_count : count_left t p.telling (lines_left t p)
      ≡ count_selected (limited t.what.now.most (map (is_wanted_in t.what.now (matches_of_task t)) (text_lines t.text.now)))
  starts_count =
      ap (count_left t p.telling) lines_there
      ∙ ap₂ (λ n flags. n + count_selected flags) none (flags_there (text_lines t.text.now))
      ∙ none_before (count_selected (limited t.what.now.most (map (is_wanted_in t.what.now (matches_of_task t)) (text_lines t.text.now))))
