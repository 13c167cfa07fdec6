-- What is written of a line while its matches are searched for.
use Rattle.std.proofs.Common.{◌≡◌, ℕ, zero, suc, ◌+◌, ◌-◌, ◌<◌, Bool, true, false, not, ◌&&◌, List, [], ◌∷◌, ◌++◌, length, map, take, drop, Option}
use Rattle.std.proofs.Common.{Some, None, is_some, nat_lt, option_map, ◌||◌, inl, inr, Result, Ok, Err, IfErr, OnOk, if◌then◌else◌, refl, sym, ap, ap₂, ◌∙◌, subst, arith, append_assoc, append-nil}
use Rattle.std.proofs.Math.Seq.{take-append_seam, take-append-add}
use Rattle.std.proofs.lemmas.Grind.{common_steps}
use Rattle.std.proofs.KnownBytes.{Appends-nil, Appends-trans}
use Rattle.std.proofs.lemmas.List.Concat.{flat_map-cons}
use Rattle.std.specs.Io.KnownBytes.{Appends}
use Rattle.std.specs.List.{flat_map, position}
use Rattle.regex_hir.specs.Re.{Re}
use Rattle.regex_hir.specs.Find.{Match, find, find_all}
use Rattle.pattern_search.specs.Searches.{span_of_match}
use Rattle.pattern_search.specs.Texts.{AreReadAs}
use Rattle.grep_core.specs.Blocks.{IsOver, PassesLine, SearchesBy, Writes, WritesLast, WritesPart, counts_lines, finds_by, reported_bytes}
use Rattle.grep_core.specs.ContextPrinting.{Item, item, print_as, print_item, still}
use Rattle.line_search.specs.Fallbacks.{found_at, next_after, spans_following}
use Rattle.line_search.specs.Lines.{SplitLine, TextLine, ended, numbered, searched, split_lines, unended}
use Rattle.grep_core.specs.LongLines.{PrintsByMatch, PrintsEach, PrintsPlain, Sends, WritesLine, WritesLines, printed_one, printed_one_as}
use Rattle.line_search.specs.Bounded.{line_pattern}
use Rattle.line_search.specs.Meant.{line_config}
use Rattle.line_search.specs.Patterns.{has_match_in, spans_in}
use Rattle.grep_core.specs.Printing.{column_of, exceeds, fields, is_long, line_bytes, long_text, printed_for, printed_line, printed_match}
use Rattle.grep_core.specs.Printing.{printed_matches, printed_once, printed_with, shows_matches, tab, trimmed}
use Rattle.line_search.specs.LineMatchers.{LineMatcher}
use Rattle.grep_core.specs.Report.{counted_as, shown_by, shown_line, shown_spans}
use Rattle.grep_core.specs.Reporting.{added, added_matches, count_in_all, may_select, needs_of, needs_spans, number_of, prints_lines, shown, still_reported}
use Rattle.line_search.specs.Searchers.{IsMatchReported, Sought, found_by}
use Rattle.grep_core.specs.declared.output_options.OutputOptions.{OutputOptions}
use Rattle.grep_core.specs.declared.output_options.Print.TheVariants.{Matches}
use Rattle.line_search.specs.declared.fault.Fault.{Fault}
use Rattle.line_search.specs.declared.patterns.PatternOptions.{PatternOptions}
use Rattle.grep_core.specs.declared.progress.Progress.{Progress}
use Rattle.grep_core.specs.declared.progress.Task.{Task}
use Rattle.grep_core.specs.declared.reporter.Reporter.{Reporter}
use Rattle.grep_core.specs.declared.role.Role.TheVariants.{Selected}
use Rattle.grep_core.proofs.BlockLemmas.{first_line, last_line}
use Rattle.line_search.proofs.ForCallers.{is_feed, spans_of_matches}
use Rattle.grep_core.proofs.SeenLemmas.{progress_by}
use Rattle.grep_core.proofs.TellingLemmas.{line_counted, line_told, lines_told, number_told, selects}
use Rattle.grep_core.proofs.WriteLemmas.{taken_before}

-- ---- what follows from a clause that holds after a call
pub on_ok : {E X Y : Type 0} (r : Result (Unit {0}) E) → (X → Y) → OnOk r X → OnOk r Y
on_ok (Ok u) f x = f x
on_ok (Err e) f x = tt

pub if_err : {E X Y : Type 0} (r : Result (Unit {0}) E) → (X → Y) → IfErr r (λ _. X) → IfErr r (λ _. Y)
if_err (Ok u) f x = tt
if_err (Err e) f x = f x

pub on_err : {E X : Type 0} (r : Result (Unit {0}) E) → X → IfErr r (λ _. X)
on_err (Ok u) x = tt
on_err (Err e) x = x

-- ---- what was sent of some bytes
pub sends_none : (w : Option (List ℕ)) (out : List ℕ) → Sends w w out out
sends_none w out = record { sent = []; written = Appends-nil w; is = refl }

pub sends_all : (w v : Option (List ℕ)) (all shown rest : List ℕ) → shown ≡ all → rest ≡ [] → Appends w v shown → Sends w v all rest
sends_all w v all shown rest seen none written = record {
  sent = all;
  written = subst (Appends w v) seen written;
  is = sym (ap (λ r. all ++ r) none ∙ append-nil all);
}

pub sends_pushed : (w v : Option (List ℕ)) (out piece pushed rest : List ℕ) → pushed ≡ out ++ piece → Sends w v pushed rest →
    Sends w v (out ++ piece) rest
sends_pushed w v out piece pushed rest is sends = subst (λ all. Sends w v all rest) is sends

-- nothing is a beginning of it all
pub none_begun : (w : Option (List ℕ)) (whole : List ℕ) → (n : ℕ) × Appends w w (take n whole)
none_begun w whole = (0, Appends-nil w)

-- what was sent is a beginning of it all
pub sent_begun : (w v : Option (List ℕ)) (all rest more : List ℕ) → Sends w v all rest → (n : ℕ) × Appends w v (take n (all ++ more))
sent_begun w v all rest more a = (
  length a.sent,
  subst (Appends w v)
      (sym (ap (take (length a.sent)) (ap (λ l. l ++ more) a.is ∙ append_assoc a.sent rest more) ∙ take-append_seam a.sent (rest ++ more)))
      a.written,
)

-- a beginning of some bytes is one of these and more
pub part_begun : (w v : Option (List ℕ)) (n : ℕ) (all more : List ℕ) → Appends w v (take n all) →
    (k : ℕ) × Appends w v (take k (all ++ more))
part_begun w v n all more written = (length (take n all), subst (Appends w v) (taken_before n all more) written)

pub begun_pushed : (w v : Option (List ℕ)) (out piece pushed more : List ℕ) → pushed ≡ out ++ piece →
    (n : ℕ) × Appends w v (take n (pushed ++ more)) → (n : ℕ) × Appends w v (take n ((out ++ piece) ++ more))
begun_pushed w v out piece pushed more is part = (part.0, subst (λ all. Appends w v (take part.0 (all ++ more))) is part.1)

-- ---- while pieces are printed one after the other: what was sent, what is still in the output, and what is still to come
pub record Stands (whole : List ℕ) (w v : Option (List ℕ)) (out rest : List ℕ) : Type 0 where
  pub sent : List ℕ
  pub written : Appends w v sent
  pub is : whole ≡ sent ++ (out ++ rest)

pieces : (a b out next piece rest : List ℕ) → out ++ piece ≡ b ++ next → a ++ (out ++ (piece ++ rest)) ≡ (a ++ b) ++ (next ++ rest)
pieces a b out next piece rest is =
    ap (λ l. a ++ l) (sym (append_assoc out piece rest) ∙ ap (λ l. l ++ rest) is ∙ append_assoc b next rest)
    ∙ sym (append_assoc a b (next ++ rest))

pub stands_on : (whole : List ℕ) (u w v : Option (List ℕ)) (out next piece rest : List ℕ) → Stands whole u w out (piece ++ rest) →
    Sends w v (out ++ piece) next → Stands whole u v next rest
stands_on whole u w v out next piece rest a b = record {
  sent = a.sent ++ b.sent;
  written = Appends-trans u w v a.sent b.sent a.written b.written;
  is = a.is ∙ pieces a.sent b.sent out next piece rest b.is;
}

joined_more : (a out piece rest more : List ℕ) → (a ++ (out ++ (piece ++ rest))) ++ more ≡ a ++ ((out ++ piece) ++ (rest ++ more))
joined_more a out piece rest more =
    append_assoc a (out ++ (piece ++ rest)) more
    ∙ ap (λ l. a ++ l) (ap (λ l. l ++ more) (sym (append_assoc out piece rest)) ∙ append_assoc (out ++ piece) rest more)

pub stands_begun : (whole : List ℕ) (u w v : Option (List ℕ)) (out piece rest more : List ℕ) → Stands whole u w out (piece ++ rest) →
    ((m : List ℕ) → (n : ℕ) × Appends w v (take n ((out ++ piece) ++ m))) → (n : ℕ) × Appends u v (take n (whole ++ more))
stands_begun whole u w v out piece rest more a part =
    let b = part (rest ++ more) in (
      length a.sent + b.0,
      subst (Appends u v)
          (sym (ap (take (length a.sent + b.0)) (ap (λ l. l ++ more) a.is ∙ joined_more a.sent out piece rest more)
          ∙ take-append-add a.sent ((out ++ piece) ++ (rest ++ more)) b.0))
          (Appends-trans u w v a.sent (take b.0 ((out ++ piece) ++ (rest ++ more))) a.written b.1),
    )

pub stands_end : (whole : List ℕ) (u w : Option (List ℕ)) (out rest : List ℕ) → rest ≡ [] → Stands whole u w out rest → Sends u w whole out
stands_end whole u w out rest none a = record {
  sent = a.sent;
  written = a.written;
  is = a.is ∙ ap (λ l. a.sent ++ l) (ap (λ l. out ++ l) none ∙ append-nil out);
}

-- ---- the pieces are what is printed for the spans
module _ (g : ℕ × ℕ → List ℕ) (re : Re) (line : List ℕ) where
  abbrev pub still_to_come : ℕ → Option (ℕ × ℕ) → List ℕ
  still_to_come n next = flat_map g (spans_following (found_at re line) n next)

  abbrev pub StandsAt : List ℕ → Option (List ℕ) → Option (List ℕ) → List ℕ → ℕ → Option (ℕ × ℕ) → Type 0
  StandsAt start w v out n next = Stands (start ++ flat_map g (map span_of_match (find_all re line))) w v out (still_to_come n next)

  pub stands_first : (start : List ℕ) (w : Option (List ℕ)) (n : ℕ) (next : Option (ℕ × ℕ)) → n ≡ length line + 1 →
      next ≡ found_at re line 0 → StandsAt start w w start n next
  stands_first start w n next long is = record {
    sent = [];
    written = Appends-nil w;
    is = ap (λ spans. start ++ flat_map g spans) (spans_of_matches (find re line) (length line + 1) (find re line 0)
        ∙ sym (ap₂ (spans_following (found_at re line)) long is));
  }

  one_comes : (n m : ℕ) (next after : Option (ℕ × ℕ)) (s : ℕ × ℕ) → n ≡ suc m → next ≡ Some s → after ≡ next_after (found_at re line) s.1 →
      still_to_come n next ≡ g s ++ still_to_come m after
  one_comes n m next after s more is follows =
      ap₂ still_to_come more is
      ∙ flat_map-cons g s (spans_following (found_at re line) m (next_after (found_at re line) s.1))
      ∙ sym (ap (λ o. g s ++ still_to_come m o) follows)

  pub stands_next : (start : List ℕ) (u w v : Option (List ℕ)) (out later : List ℕ) (most step : ℕ) (next after : Option (ℕ × ℕ)) (s : ℕ × ℕ) →
      step < most → next ≡ Some s → after ≡ next_after (found_at re line) s.1 → StandsAt start u w out (most - step) next →
      Sends w v (out ++ g s) later → StandsAt start u v later (most - (step + 1)) after
  stands_next start u w v out later most step next after s below is follows a sends =
      let one : most - step ≡ suc (most - (step + 1)) = omega (arith, below) in
      stands_on (start ++ flat_map g (map span_of_match (find_all re line))) u w v out later (g s) (still_to_come (most - (step + 1)) after)
      (subst (Stands (start ++ flat_map g (map span_of_match (find_all re line))) u w out)
      (one_comes (most - step) (most - (step + 1)) next after s one is follows) a) sends

  pub stands_failed : (start : List ℕ) (u w v : Option (List ℕ)) (out more : List ℕ) (most step : ℕ) (next : Option (ℕ × ℕ)) (s : ℕ × ℕ) →
      step < most → next ≡ Some s → StandsAt start u w out (most - step) next →
      ((m : List ℕ) → (n : ℕ) × Appends w v (take n ((out ++ g s) ++ m))) →
      (n : ℕ) × Appends u v (take n ((start ++ flat_map g (map span_of_match (find_all re line))) ++ more))
  stands_failed start u w v out more most step next s below is a part =
      let one : most - step ≡ suc (most - (step + 1)) = omega (arith, below) in
      let after : Option (ℕ × ℕ) = next_after (found_at re line) s.1 in
      stands_begun (start ++ flat_map g (map span_of_match (find_all re line))) u w v out (g s) (still_to_come (most - (step + 1)) after) more
      (subst (Stands (start ++ flat_map g (map span_of_match (find_all re line))) u w out)
      (one_comes (most - step) (most - (step + 1)) next after s one is refl) a) part

  none_comes : (n : ℕ) → still_to_come n None ≡ []
  none_comes zero = refl
  none_comes (suc n) = refl

  pub stands_over : (start : List ℕ) (u w : Option (List ℕ)) (out : List ℕ) (n : ℕ) (next : Option (ℕ × ℕ)) → next ≡ None →
      StandsAt start u w out n next → Sends u w (start ++ flat_map g (map span_of_match (find_all re line))) out
  stands_over start u w out n next none a =
      stands_end (start ++ flat_map g (map span_of_match (find_all re line))) u w out (still_to_come n next)
      (ap (still_to_come n) none ∙ none_comes n) a

  pub stands_counted : (start : List ℕ) (u w : Option (List ℕ)) (out : List ℕ) (n : ℕ) (next : Option (ℕ × ℕ)) → n ≡ 0 →
      StandsAt start u w out n next → Sends u w (start ++ flat_map g (map span_of_match (find_all re line))) out
  stands_counted start u w out n next none a =
      stands_end (start ++ flat_map g (map span_of_match (find_all re line))) u w out (still_to_come n next)
      (ap (λ k. still_to_come k next) none) a

-- ---- a line that is selected, whose matches are printed one by one
selects_one : (w : OutputOptions) (n : ℕ) → w.invert ≡ false → may_select w.most n ≡ true → true ≡ selects w n true
selects_one w n plain may = sym (ap₂ (λ a b. (if a then false else true) && b) plain may)

prints_some : (w : OutputOptions) → PrintsByMatch w → prints_lines w.print ≡ true
prints_some w (inl alone) = ap prints_lines alone
prints_some w (inr each) = ap prints_lines each.lines

counts_none : (w : OutputOptions) (n : ℕ) → PrintsByMatch w → added_matches w.print true n ≡ 0
counts_none w n (inl alone) = ap (λ p. added_matches p true n) alone
counts_none w n (inr each) = ap (λ p. added_matches p true n) each.lines

adds_none : (w : OutputOptions) (t u : Reporter) (n : ℕ) → PrintsByMatch w → u.matches ≡ t.matches →
    u.matches ≡ t.matches + added_matches w.print true n
adds_none w t u n by_match same = let none = counts_none w n by_match in omega (arith, same, none)

-- without a template, a line is shown as it is
line_as_it_is : (w : OutputOptions) (f : LineMatcher) (line : TextLine) → w.replacement ≡ None → line ≡ shown_line w f line
line_as_it_is w f line unreplaced = ap (λ o. record line { content = (shown_by o f line.content).content }) (sym unreplaced)

spans_as_they_are : (w : OutputOptions) (f : LineMatcher) (line : TextLine) → w.replacement ≡ None →
    f.spans line.content ≡ shown_spans w f line
spans_as_they_are w f line unreplaced = ap (λ o. (shown_by o f line.content).spans) (sym unreplaced)

module _ (w : OutputOptions) (f : LineMatcher) (name : List ℕ) (with_name : Bool) where
  pub begun : (t u : Reporter) (line : TextLine) (out new : List ℕ) (lines : List TextLine) → PrintsByMatch w → PrintsPlain w → may_select w.most t.count ≡ true → true ≡ f.has_match line.content → u.count ≡ t.count + 1 → u.matches ≡ t.matches →
      ((it : Item) (flags : List Bool) (items : List Item) →
      out ++ still w (shown with_name name) t.course (true ∷ flags) (it ∷ items)
      ≡ (new ++ print_item w (shown with_name name) Selected it) ++ still w (shown with_name name) u.course flags items) →
      out ++ still_reported w f name with_name t (line ∷ lines)
      ≡ new ++ (print_item w (shown with_name name) Selected (item line (f.spans line.content)) ++ still_reported w f name with_name u lines)
  begun t u line out new lines by_match as_is may seen counted same goes_on =
      let it : Item = item line (f.spans line.content) in
      let after : List ℕ = new ++ print_item w (shown with_name name) Selected it in
      let number : number_of w.print u ≡ number_of w.print t + added w.print true (length (f.spans line.content)) =
      number_told w.print t u true (length (f.spans line.content)) (length (f.spans line.content)) refl counted
      (adds_none w t u (length (f.spans line.content)) by_match same) in
      let told = lines_told {E = Unit {0}} (Ok tt) w.print w t.course u.course true it out after (shown with_name name) (prints_some w by_match)
      (goes_on it) in
      line_told w.print w f name with_name t.course u.course t.count u.count (number_of w.print t) (number_of w.print u) true true line
      line (f.spans line.content) out after lines (selects_one w t.count as_is.plain may) seen (line_as_it_is w f line as_is.unreplaced)
      (spans_as_they_are w f line as_is.unreplaced) counted
      (λ flags items. told name with_name (number_of w.print t) (number_of w.print u) flags items refl number)
      ∙ append_assoc new (print_item w (shown with_name name) Selected it) (still_reported w f name with_name u lines)

  pub begun_counted : (t u : Reporter) (line : TextLine) (lines : List TextLine) → w.invert ≡ false → may_select w.most t.count ≡ true →
      true ≡ f.has_match line.content → u.count ≡ t.count + 1 → count_in_all w f u lines ≡ count_in_all w f t (line ∷ lines)
  begun_counted t u line lines plain may seen counted =
      line_counted w f t.count u.count true true line lines (selects_one w t.count plain may) seen counted

-- ---- what is printed of its matches
flat_map_same : {X A : Type 0} (f g : X → List A) → ((x : X) → f x ≡ g x) → (xs : List X) → flat_map f xs ≡ flat_map g xs
flat_map_same f g same [] = refl
flat_map_same f g same (x ∷ xs) = ap₂ (λ a b. a ++ b) (same x) (flat_map_same f g same xs)

not_both : true ≡ false → ⊥
not_both e = let z : ◌≡◌ {A = ℕ} 0 1 = ap (λ b. if b then 0 else 1) e in omega (arith, z)

or_third : (a b d : Bool) → (a || b || true || d) ≡ true
or_third true b d = refl
or_third false true d = refl
or_third false false d = refl

shows_each : (w : OutputOptions) → w.each_match ≡ true → shows_matches w ≡ true
shows_each w each =
    ap (λ b. is_some w.color || w.columns || b || is_some w.replacement) each ∙ or_third (is_some w.color) w.columns (is_some w.replacement)

chosen : {X : Type 0} (b : Bool) (x y z : X) → b ≡ false → (if b then x else z) ≡ (if b then y else z)
chosen true x y z is = absurd (not_both is)
chosen false x y z is = refl

-- a line that isn't too long for any limit is printed for a match whatever its other matches are
one_for : (w : OutputOptions) (name : Option (List ℕ)) (line : TextLine) (found : List (ℕ × ℕ)) (s : ℕ × ℕ) → PrintsEach w →
    printed_for w name Selected line found s ≡ printed_one w name line s
one_for w name line found s each =
    ap (λ t. fields w name Selected line.number (column_of w s) (line.place + s.0) ++ t)
    (chosen (is_long w line) (long_text w name Selected line.content.bytes (s ∷ []) found)
    (long_text w name Selected line.content.bytes (s ∷ []) [])
    (tab w name (trimmed w line.content.bytes) ++ (line_bytes w Selected (s ∷ []) line.content.bytes ++ w.terminator ∷ []))
    (ap (λ o. exceeds o (length line.content.bytes + (if line.content.is_ended then 1 else 0))) each.unlimited))
    ∙ sym (ap (λ p. printed_one_as p w name line s) each.lines)

printed_each : (w : OutputOptions) (name : Option (List ℕ)) (line : TextLine) (found : List (ℕ × ℕ)) → PrintsEach w → w.invert ≡ false →
    nat_lt 0 (length found) ≡ true → printed_line w name Selected line found ≡ flat_map (printed_one w name line) found
printed_each w name line found each plain some =
    ap (printed_with w name Selected line)
    (ap₂ (λ a b. if a && not b then found else []) (shows_each w each.each) plain)
    ∙ ap₂ (λ a b. if a && b then flat_map (printed_for w name Selected line found) found else printed_once w name Selected line found)
    each.each some
    ∙ flat_map_same (printed_for w name Selected line found) (printed_one w name line) (λ s. one_for w name line found s each) found

printed_alone : (w : OutputOptions) (name : Option (List ℕ)) (line : TextLine) (found : List (ℕ × ℕ)) → w.print ≡ Matches → w.invert ≡ false →
    printed_matches w name Selected line found ≡ flat_map (printed_one w name line) found
printed_alone w name line found alone plain =
    ap (λ b. if not b then flat_map (printed_match w name Selected line) found else []) plain
    ∙ flat_map_same (printed_match w name Selected line) (printed_one w name line) (λ s. sym (ap (λ p. printed_one_as p w name line s) alone))
    found

pub all_printed : (w : OutputOptions) (name : Option (List ℕ)) (line : TextLine) (found spans : List (ℕ × ℕ)) → PrintsByMatch w →
    w.invert ≡ false → nat_lt 0 (length spans) ≡ true → found ≡ spans →
    print_item w name Selected (item line spans) ≡ flat_map (printed_one w name line) found
all_printed w name line found spans (inl alone) plain some is =
    ap (λ p. print_as p w name Selected (item line spans)) alone
    ∙ printed_alone w name line spans alone plain
    ∙ ap (flat_map (printed_one w name line)) (sym is)
all_printed w name line found spans (inr each) plain some is =
    ap (λ p. print_as p w name Selected (item line spans)) each.lines
    ∙ printed_each w name line spans each plain some
    ∙ ap (flat_map (printed_one w name line)) (sym is)

-- ---- what is written of it, and then
whole_of : (none out found piece old rest : List ℕ) → none ≡ [] → none ++ old ≡ out ++ (piece ++ rest) → piece ≡ found →
    old ≡ (out ++ found) ++ rest
whole_of none out found piece old rest empty is same =
    ap (λ l. l ++ old) (sym empty) ∙ is ∙ ap (λ l. out ++ (l ++ rest)) same ∙ sym (append_assoc out found rest)

pub selected_written : (none out found piece old rest left shown : List ℕ) (u v x : Option (List ℕ)) → none ≡ [] →
    none ++ old ≡ out ++ (piece ++ rest) → piece ≡ found → Sends u v (out ++ found) left → shown ≡ left → Appends v x shown →
    Sends u x old rest
selected_written none out found piece old rest left shown u v x empty is same a seen written = record {
  sent = a.sent ++ left;
  written = Appends-trans u v x a.sent left a.written (subst (Appends v x) seen written);
  is = whole_of none out found piece old rest empty is same ∙ ap (λ l. l ++ rest) a.is;
}

pub selected_begun : (none out found piece old rest : List ℕ) (u v : Option (List ℕ)) → none ≡ [] →
    none ++ old ≡ out ++ (piece ++ rest) → piece ≡ found →
    ((more : List ℕ) → (n : ℕ) × Appends u v (take n ((out ++ found) ++ more))) → (n : ℕ) × Appends u v (take n old)
selected_begun none out found piece old rest u v empty is same part =
    let a = part rest in (a.0, subst (λ l. Appends u v (take a.0 l)) (sym (whole_of none out found piece old rest empty is same)) a.1)

pub selected_part : (none out found piece old rest left shown : List ℕ) (u v x : Option (List ℕ)) → none ≡ [] →
    none ++ old ≡ out ++ (piece ++ rest) → piece ≡ found → Sends u v (out ++ found) left → shown ≡ left →
    (n : ℕ) × Appends v x (take n shown) → (n : ℕ) × Appends u x (take n old)
selected_part none out found piece old rest left shown u v x empty is same a seen part =
    let b = part_begun v x part.0 left rest (subst (λ l. Appends v x (take part.0 l)) seen part.1) in (
      length a.sent + b.0,
      subst (Appends u x)
          (sym (ap (take (length a.sent + b.0)) (whole_of none out found piece old rest empty is same ∙ ap (λ l. l ++ rest) a.is
          ∙ append_assoc a.sent left rest) ∙ take-append-add a.sent (left ++ rest) b.0))
          (Appends-trans u v x a.sent (take b.0 (left ++ rest)) a.written b.1),
    )

pub listed_written : (none out old rest shown : List ℕ) (u v : Option (List ℕ)) → none ≡ [] → none ++ old ≡ out ++ rest → shown ≡ out →
    Appends u v shown → Sends u v old rest
listed_written none out old rest shown u v empty is seen written = record {
  sent = out;
  written = subst (Appends u v) seen written;
  is = ap (λ l. l ++ old) (sym empty) ∙ is;
}

pub listed_part : (none out old rest shown : List ℕ) (u v : Option (List ℕ)) → none ≡ [] → none ++ old ≡ out ++ rest → shown ≡ out →
    (n : ℕ) × Appends u v (take n shown) → (n : ℕ) × Appends u v (take n old)
listed_part none out old rest shown u v empty is seen part =
    let b = part_begun u v part.0 out rest (subst (λ l. Appends u v (take part.0 l)) seen part.1) in (
      b.0,
      subst (λ l. Appends u v (take b.0 l)) (sym (ap (λ l. l ++ old) (sym empty) ∙ is)) b.1,
    )

-- all that was written is a beginning, too
pub all_begun : (old rest : List ℕ) (u v : Option (List ℕ)) → Sends u v old rest → (n : ℕ) × Appends u v (take n old)
all_begun old rest u v a =
    (length a.sent, subst (Appends u v) (sym (ap (take (length a.sent)) a.is ∙ take-append_seam a.sent rest)) a.written)

-- ---- the line of a finder
pub seen_by : (t : Task) (s : Sought) (by : SearchesBy t s) (line : SplitLine) → IsMatchReported s.how s.texts (searched s.how.crlf line) true →
    true ≡ (finds_by t by).has_match line
seen_by t s by line known =
    subst (λ (h : PatternOptions). true ≡ has_match_in by.how by.patterns (searched h.crlf line)) (sym by.same)
    (progress_by s (needs_spans t.what.now) by (searched s.how.crlf line) true known)

needed : (w : OutputOptions) → PrintsByMatch w → needs_of w.print (shows_matches w) ≡ true
needed w (inl alone) = ap (λ p. needs_of p (shows_matches w)) alone
needed w (inr each) = ap (λ p. needs_of p (shows_matches w)) each.lines ∙ shows_each w each.each

pub found_in : (t : Task) (s : Sought) (by : SearchesBy t s) (line : SplitLine) → PrintsByMatch t.what.now →
    spans_in s.how by.patterns (searched s.how.crlf line) ≡ (finds_by t by).spans line
found_in t s by line by_match =
    ap (λ (h : PatternOptions). spans_in h by.patterns (searched h.crlf line)) (sym by.same)
    ∙ sym (ap (λ b. if b then (found_by by).spans line else []) (needed t.what.now by_match))

pub read_by : (t : Task) (s : Sought) (by : SearchesBy t s) → AreReadAs (line_config s.how) s.texts by.patterns
read_by t s by = subst (λ (h : PatternOptions). AreReadAs (line_config h) s.texts by.patterns) by.same by.are_read

-- a line that has a match has a span
positive : (n : ℕ) → 0 < n → nat_lt 0 n ≡ true
positive n some = grind (arith, common_steps)

following_some : (at : ℕ → Option (ℕ × ℕ)) (n : ℕ) (o : Option Match) → is_some o ≡ true →
    nat_lt 0 (length (spans_following at (suc n) (option_map span_of_match o))) ≡ true
following_some at n None is = absurd (not_both (sym is))
following_some at n (Some m) is = positive (length (spans_following at (suc n) (option_map span_of_match (Some m)))) (omega arith)

spans_some : (re : Re) (line : List ℕ) → is_some (find re line 0) ≡ true → nat_lt 0 (length (map span_of_match (find_all re line))) ≡ true
spans_some re line is =
    let more : length line + 1 ≡ suc (length line) = omega arith in
    ap (λ l. nat_lt 0 (length l)) (spans_of_matches (find re line) (length line + 1) (find re line 0)
    ∙ ap (λ n. spans_following (found_at re line) n (option_map span_of_match (find re line 0))) more)
    ∙ following_some (found_at re line) (length line) (find re line 0) is

pub some_by : (t : Task) (s : Sought) (by : SearchesBy t s) (line : SplitLine) → PrintsByMatch t.what.now →
    IsMatchReported s.how s.texts (searched s.how.crlf line) true → nat_lt 0 (length ((finds_by t by).spans line)) ≡ true
some_by t s by line by_match known =
    subst (λ l. nat_lt 0 (length l) ≡ true) (found_in t s by line by_match)
    (spans_some (line_pattern s.how by.patterns) (searched s.how.crlf line) (sym (known by.patterns (read_by t s by))))

-- a line after which the next one is counted
pub passed_lines : (t : Task) (f : LineMatcher) (p q : Progress) (u : Reporter) (len : ℕ) (lines : List SplitLine) →
    PassesLine (record p { telling = u }) q len →
    still_reported t.what.now f t.name.now t.with_name u (numbered (p.number + 1) (p.place + len + 1) lines) ≡ reported_bytes t f q lines
passed_lines t f p q u len lines passed =
    ap₂ (λ n at. still_reported t.what.now f t.name.now t.with_name u (numbered n at lines)) (sym passed.number) (sym passed.place)
    ∙ ap (λ it. still_reported t.what.now f t.name.now t.with_name it (numbered q.number q.place lines)) (sym passed.telling)

pub passed_counted : (t : Task) (f : LineMatcher) (p q : Progress) (u : Reporter) (len : ℕ) (lines : List SplitLine) →
    PassesLine (record p { telling = u }) q len →
    counts_lines t f q lines ≡ count_in_all t.what.now f u (numbered (p.number + 1) (p.place + len + 1) lines)
passed_counted t f p q u len lines passed =
    ap (λ it. count_in_all t.what.now f it (numbered q.number q.place lines)) passed.telling
    ∙ ap₂ (λ n at. count_in_all t.what.now f u (numbered n at lines)) passed.number passed.place

-- ---- what a call that writes a line promises
module _ {t : Task} {s now : Sought} {p q : Progress} {line : SplitLine} {w v : Option (List ℕ)} where
  pub line_failed : {e : Fault} → now ≡ s → ((by : SearchesBy t s) (lines : List SplitLine) →
      (n : ℕ) × Appends w v (take n (reported_bytes t (finds_by t by) p (line ∷ lines)))) → WritesLine t s now p q line w v (Err e)
  line_failed same part = record { same = same; waits = tt; writes = tt; fault = part }

  -- after a call that kept what is searched for
  pub line_moved : {was : Sought} {r : Result (Unit {0}) Fault} → was ≡ s → WritesLine t was now p q line w v r →
      WritesLine t s now p q line w v r
  line_moved {was} {r} same a = subst (λ (x : Sought). WritesLine t x now p q line w v r) same a

-- ---- the first line of what was read, or the last one
module _ (t : Task) (f : LineMatcher) where
  pub same_writes : (p : Progress) (text : List ℕ) (w : Option (List ℕ)) → Writes t f p p text text w w
  same_writes p text w = record { reported = []; written = Appends-nil w; on = record { printed = refl; counted = refl } }

  first_is : (read piece more : List ℕ) (len : ℕ) → position is_feed read ≡ Some len → piece ≡ take len read →
      split_lines (read ++ more) ≡ ended piece ∷ split_lines (drop (len + 1) read ++ more)
  first_is read piece more len found cut =
      first_line read more len found ∙ ap (λ l. ended l ∷ split_lines (drop (len + 1) read ++ more)) (sym cut)

  pub first_written : (p q : Progress) (read piece more : List ℕ) (len : ℕ) (w v : Option (List ℕ)) → position is_feed read ≡ Some len →
      piece ≡ take len read →
      WritesLines t f p q (ended piece ∷ split_lines (drop (len + 1) read ++ more)) (split_lines (drop (len + 1) read ++ more)) w v →
      Writes t f p q (read ++ more) (drop (len + 1) read ++ more) w v
  first_written p q read piece more len w v found cut a = record {
    reported = a.sends.sent;
    written = a.sends.written;
    on = record {
      printed = ap (reported_bytes t f p) (first_is read piece more len found cut) ∙ a.sends.is;
      counted = a.counted ∙ sym (ap (counts_lines t f p) (first_is read piece more len found cut));
    };
  }

  pub first_begun : (p : Progress) (read piece more : List ℕ) (len : ℕ) (w v : Option (List ℕ)) → position is_feed read ≡ Some len →
      piece ≡ take len read →
      (n : ℕ) × Appends w v (take n (reported_bytes t f p (ended piece ∷ split_lines (drop (len + 1) read ++ more)))) →
      WritesPart t f p (read ++ more) w v
  first_begun p read piece more len w v found cut part = (
    part.0,
    subst (λ lines. Appends w v (take part.0 (reported_bytes t f p lines))) (sym (first_is read piece more len found cut)) part.1,
  )

  -- the last line, which no line feed ends
  pub last_written : (p q : Progress) (read more : List ℕ) (w v : Option (List ℕ)) → position is_feed read ≡ None → 0 < length read →
      more ≡ [] → WritesLines t f p q (unended read ∷ []) [] w v → WritesLast t f p q (read ++ more) w v
  last_written p q read more w v unfed some none a =
      let lines : split_lines (read ++ more) ≡ unended read ∷ [] =
      ap (λ m. split_lines (read ++ m)) none ∙ ap split_lines (append-nil read) ∙ last_line read unfed some in
      record {
        reported = a.sends.sent;
        written = a.sends.written;
        printed = ap (reported_bytes t f p) lines ∙ a.sends.is;
        counted = ap (counted_as t.what.now.print) (a.counted ∙ sym (ap (counts_lines t f p) lines));
      }

  pub last_begun : (p : Progress) (read more : List ℕ) (w v : Option (List ℕ)) → position is_feed read ≡ None → 0 < length read →
      more ≡ [] → (n : ℕ) × Appends w v (take n (reported_bytes t f p (unended read ∷ []))) → WritesPart t f p (read ++ more) w v
  last_begun p read more w v unfed some none part =
      let lines : split_lines (read ++ more) ≡ unended read ∷ [] =
      ap (λ m. split_lines (read ++ m)) none ∙ ap split_lines (append-nil read) ∙ last_line read unfed some in
      (part.0, subst (λ l. Appends w v (take part.0 (reported_bytes t f p l))) (sym lines) part.1)

  -- there is none
  pub none_last : (p : Progress) (read more : List ℕ) (w : Option (List ℕ)) → length read ≡ 0 → more ≡ [] →
      WritesLast t f p p (read ++ more) w w
  none_last p [] more w empty none = record {
    reported = [];
    written = Appends-nil w;
    printed = ap (λ m. reported_bytes t f p (split_lines m)) none;
    counted = sym (ap (λ m. counted_as t.what.now.print (counts_lines t f p (split_lines m))) none);
  }
  none_last p (x ∷ xs) more w empty none = absurd (omega (arith, empty))

  -- nothing more is printed
  pub over_last : (p : Progress) (text : List ℕ) (w : Option (List ℕ)) → IsOver t p → WritesLast t f p p text w w
  over_last p text w over = record {
    reported = [];
    written = Appends-nil w;
    printed = over.printed f (split_lines text);
    counted = sym (over.counted f (split_lines text));
  }

  -- and what is printed after all lines
  pub all_last : (p q : Progress) (text : List ℕ) (u w v : Option (List ℕ)) → WritesLast t f p q text u w →
      Appends w v (reported_bytes t f q []) → Appends u v (reported_bytes t f p (split_lines text))
  all_last p q text u w v a written =
      subst (Appends u v) (sym a.printed) (Appends-trans u w v a.reported (reported_bytes t f q []) a.written written)

  pub last_part : (p q : Progress) (text : List ℕ) (u w v : Option (List ℕ)) → WritesLast t f p q text u w →
      (n : ℕ) × Appends w v (take n (reported_bytes t f q [])) → WritesPart t f p text u v
  last_part p q text u w v a part = (
    length a.reported + part.0,
    subst (Appends u v)
        (sym (ap (take (length a.reported + part.0)) a.printed ∙ take-append-add a.reported (reported_bytes t f q []) part.0))
        (Appends-trans u w v a.reported (take part.0 (reported_bytes t f q [])) a.written part.1),
  )
