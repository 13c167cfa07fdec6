-- If neither numbers nor offsets of lines are printed, nothing that is reported depends on them.
use Rattle.std.proofs.Common.{◌≡◌, ◌≤◌, ◌<◌, ℕ, ◌+◌, ◌++◌, Bool, true, false, ◌&&◌, ◌||◌, List, [], ◌∷◌, length, take, drop, map, count_by}
use Rattle.std.proofs.Common.{Option, nat_lt, slice_range, if◌then◌else◌, refl, sym, ap, ap₂, subst, ◌∙◌}
use Rattle.std.specs.List.{flat_map}
use Rattle.std.proofs.lemmas.Bool.{true≢false}
use Rattle.std.proofs.lemmas.List.{length-take-le}
use Rattle.grep_core.specs.declared.progress.Progress.{Progress}
use Rattle.grep_core.specs.declared.progress.Task.{Task}
use Rattle.grep_core.specs.declared.colors.Part.TheVariants.{Number, Offset}
use Rattle.grep_core.specs.declared.context_printer.ContextPrinter.{ContextPrinter}
use Rattle.grep_core.specs.declared.reporter.Reporter.{Reporter}
use Rattle.grep_core.specs.declared.role.Role.{Role}
use Rattle.grep_core.specs.declared.role.Role.TheVariants.{Selected, Beside, Hidden}
use Rattle.grep_core.specs.declared.separator_state.SeparatorState.{SeparatorState}
use Rattle.grep_core.specs.declared.separator_state.SeparatorState.TheVariants.{LastPrinted}
use Rattle.grep_core.specs.declared.output_options.Print.{Print}
use Rattle.grep_core.specs.declared.output_options.Print.TheVariants.{Lines, Matches, Count, CountMatches, NameIfAny, NameIfNone, Nothing}
use Rattle.grep_core.specs.declared.output_options.OutputOptions.{OutputOptions}
use Rattle.grep_core.specs.Blocks.{reported_bytes, counts_lines}
use Rattle.line_search.specs.Candidates.{IsLineStart}
use Rattle.grep_core.specs.ContextPrinting.{Item, item, print_as, print_item, still, waiting_item}
use Rattle.line_search.specs.Lines.{SplitLine, TextLine, numbered, split_lines}
use Rattle.grep_core.specs.Printing.{column_field, column_of, fields, first_column, has_marks, if_asked, is_printed, line_text, match_text, name_field, number_field}
use Rattle.grep_core.specs.Printing.{printed_for, printed_line, printed_match, printed_matches, printed_once, printed_with, shown_matches}
use Rattle.grep_core.specs.Skipping.{AreWhole, MaySkip, PassesLinesTo, held_of, shows_numbers}
use Rattle.line_search.specs.LineMatchers.{LineMatcher}
use Rattle.grep_core.specs.Report.{after_hidden, after_of, before_of, count_line, is_wanted, parting, print_lines, shown_of}
use Rattle.grep_core.specs.Selecting.{count_selected, limited, roles_from}
use Rattle.grep_core.specs.Reporting.{flags_after, left_of, matches_in, number_of, prints_lines, reported_lines, reported_item, shown}
use Rattle.line_search.proofs.ForCallers.{is_feed}
use Rattle.grep_core.proofs.PassLemmas.{passed_over}

-- ---- what is printed for a line, with its number and offset left out
module _ (w : OutputOptions) (name : Option (List ℕ)) (unnumbered : w.numbers ≡ false) (unplaced : w.offsets ≡ false) where
  not_asked : (asked : Bool) (one other : List ℕ) → asked ≡ false → if_asked asked one ≡ if_asked asked other
  not_asked true one other none = absurd (true≢false none)
  not_asked false one other none = refl

  fields_same : (role : Role) (column : Option ℕ) (i k j l : ℕ) → fields w name role i column k ≡ fields w name role j column l
  fields_same role column i k j l =
      ap₂ (λ number place. name_field w role name ++ (number ++ (column_field w role column ++ place)))
      (not_asked w.numbers (number_field w role Number i) (number_field w role Number j) unnumbered)
      (not_asked w.offsets (number_field w role Offset k) (number_field w role Offset l) unplaced)

  abbrev line_at : ℕ → ℕ → SplitLine → TextLine
  line_at i k content = record { number = i; place = k; content = content }

  once_same : (role : Role) (content : SplitLine) (marks : List (ℕ × ℕ)) (i k j l : ℕ) →
      printed_once w name role (line_at i k content) marks ≡ printed_once w name role (line_at j l content) marks
  once_same role content marks i k j l =
      ap (λ text. text ++ line_text w name role (line_at i k content) marks marks)
      (fields_same role (first_column w marks) i k j l)

  for_same : (role : Role) (content : SplitLine) (all marks : List (ℕ × ℕ)) (i k j l : ℕ) →
      flat_map (printed_for w name role (line_at i k content) all) marks
      ≡ flat_map (printed_for w name role (line_at j l content) all) marks
  for_same role content all [] i k j l = refl
  for_same role content all (s ∷ marks) i k j l =
      ap₂ (λ first others. (first ++ line_text w name role (line_at i k content) (s ∷ []) all) ++ others)
      (fields_same role (column_of w s) i (k + s.0) j (l + s.0)) (for_same role content all marks i k j l)

  line_same : (role : Role) (content : SplitLine) (found : List (ℕ × ℕ)) (i k j l : ℕ) →
      printed_line w name role (line_at i k content) found ≡ printed_line w name role (line_at j l content) found
  line_same role content found i k j l =
      let marks : List (ℕ × ℕ) = shown_matches w role found in
      ap₂ (λ each once. if w.each_match && nat_lt 0 (length marks) then each else once)
      (for_same role content marks marks i k j l) (once_same role content marks i k j l)

  match_same : (role : Role) (content : SplitLine) (s : ℕ × ℕ) (i k j l : ℕ) →
      printed_match w name role (line_at i k content) s ≡ printed_match w name role (line_at j l content) s
  match_same role content s i k j l =
      ap (λ first. if is_printed w s then first ++ match_text w name role (slice_range content.bytes s.0 s.1) else [])
      (fields_same role (column_of w s) i (k + s.0) j (l + s.0))

  each_same : (role : Role) (content : SplitLine) (found : List (ℕ × ℕ)) (i k j l : ℕ) →
      flat_map (printed_match w name role (line_at i k content)) found ≡ flat_map (printed_match w name role (line_at j l content)) found
  each_same role content [] i k j l = refl
  each_same role content (s ∷ found) i k j l =
      ap₂ (λ first others. first ++ others) (match_same role content s i k j l) (each_same role content found i k j l)

  matches_printed_same : (role : Role) (content : SplitLine) (found : List (ℕ × ℕ)) (i k j l : ℕ) →
      printed_matches w name role (line_at i k content) found ≡ printed_matches w name role (line_at j l content) found
  matches_printed_same role content found i k j l =
      ap (λ text. if has_marks w role then text else []) (each_same role content found i k j l)

  item_same : (print : Print) (role : Role) (content : SplitLine) (found : List (ℕ × ℕ)) (i k j l : ℕ) →
      print_as print w name role (item (line_at i k content) found) ≡ print_as print w name role (item (line_at j l content) found)
  item_same Lines role content found i k j l = line_same role content found i k j l
  item_same Matches role content found i k j l = matches_printed_same role content found i k j l
  item_same Count role content found i k j l = line_same role content found i k j l
  item_same CountMatches role content found i k j l = line_same role content found i k j l
  item_same NameIfAny role content found i k j l = line_same role content found i k j l
  item_same NameIfNone role content found i k j l = line_same role content found i k j l
  item_same Nothing role content found i k j l = line_same role content found i k j l

  abbrev items_at : LineMatcher → ℕ → ℕ → List SplitLine → List Item
  items_at f i k lines = map (reported_item w f) (numbered i k lines)

  abbrev printed : SeparatorState → List Role → List Item → List ℕ
  printed before roles items = print_lines w (print_item w name) before roles items

  -- what is printed for some lines after buffered ones
  printed_same : (f : LineMatcher) (before : SeparatorState) (roles : List Role) (front : List Item) (lines : List SplitLine) (i k j l : ℕ) →
      printed before roles (front ++ items_at f i k lines) ≡ printed before roles (front ++ items_at f j l lines)
  printed_same f before [] front lines i k j l = refl
  printed_same f before (role ∷ roles) [] [] i k j l = refl
  printed_same f before (Hidden ∷ roles) [] (line ∷ lines) i k j l =
      printed_same f (after_hidden before) roles [] lines (i + 1) (k + length line.bytes + 1) (j + 1) (l + length line.bytes + 1)
  printed_same f before (Selected ∷ roles) [] (line ∷ lines) i k j l =
      ap₂ (λ first others. parting w before ++ (first ++ others)) (item_same w.print Selected (shown_of w f line).content (shown_of w f line).spans i k j l)
      (printed_same f LastPrinted roles [] lines (i + 1) (k + length line.bytes + 1) (j + 1) (l + length line.bytes + 1))
  printed_same f before (Beside ∷ roles) [] (line ∷ lines) i k j l =
      ap₂ (λ first others. parting w before ++ (first ++ others)) (item_same w.print Beside (shown_of w f line).content (shown_of w f line).spans i k j l)
      (printed_same f LastPrinted roles [] lines (i + 1) (k + length line.bytes + 1) (j + 1) (l + length line.bytes + 1))
  printed_same f before (Hidden ∷ roles) (q ∷ front) lines i k j l =
      printed_same f (after_hidden before) roles front lines i k j l
  printed_same f before (Selected ∷ roles) (q ∷ front) lines i k j l =
      ap (λ others. parting w before ++ (print_item w name Selected q ++ others)) (printed_same f LastPrinted roles front lines i k j l)
  printed_same f before (Beside ∷ roles) (q ∷ front) lines i k j l =
      ap (λ others. parting w before ++ (print_item w name Beside q ++ others)) (printed_same f LastPrinted roles front lines i k j l)

  still_same : (f : LineMatcher) (c : ContextPrinter) (flags : List Bool) (lines : List SplitLine) (i k j l : ℕ) →
      still w name c flags (items_at f i k lines) ≡ still w name c flags (items_at f j l lines)
  still_same f c flags lines i k j l =
      printed_same f c.known
      (roles_from (before_of w.context) (after_of w.context) c.left (map (λ _. false) (map waiting_item c.waiting.items) ++ flags))
      (map waiting_item c.waiting.items) lines i k j l

wanted_same : (w : OutputOptions) (f : LineMatcher) (i k j l : ℕ) (lines : List SplitLine) →
    map (is_wanted w f) (numbered i k lines) ≡ map (is_wanted w f) (numbered j l lines)
wanted_same w f i k j l [] = refl
wanted_same w f i k j l (line ∷ lines) =
    ap (λ rest. is_wanted w f (record { number = i; place = k; content = line }) ∷ rest)
    (wanted_same w f (i + 1) (k + length line.bytes + 1) (j + 1) (l + length line.bytes + 1) lines)

flags_same : (w : OutputOptions) (f : LineMatcher) (n i k j l : ℕ) (lines : List SplitLine) →
    flags_after w f n (numbered i k lines) ≡ flags_after w f n (numbered j l lines)
flags_same w f n i k j l lines = ap (limited (left_of w.most n)) (wanted_same w f i k j l lines)

matches_same : (w : OutputOptions) (f : LineMatcher) (i k j l : ℕ) (flags : List Bool) (lines : List SplitLine) →
    matches_in flags (map (reported_item w f) (numbered i k lines)) ≡ matches_in flags (map (reported_item w f) (numbered j l lines))
matches_same w f i k j l [] lines = refl
matches_same w f i k j l (flag ∷ flags) [] = refl
matches_same w f i k j l (true ∷ flags) (line ∷ lines) =
    ap (λ m. length ((shown_of w f line).spans) + m)
    (matches_same w f (i + 1) (k + length line.bytes + 1) (j + 1) (l + length line.bytes + 1) flags lines)
matches_same w f i k j l (false ∷ flags) (line ∷ lines) =
    matches_same w f (i + 1) (k + length line.bytes + 1) (j + 1) (l + length line.bytes + 1) flags lines

-- Nothing that is reported depends on the numbers and offsets if that isn't asked for.
abbrev shows_as : Print → OutputOptions → Bool
shows_as print w = prints_lines print && (w.numbers || w.offsets)

no_numbers : (numbers offsets : Bool) → (numbers || offsets) ≡ false → numbers ≡ false
no_numbers true offsets none = absurd (true≢false none)
no_numbers false offsets none = refl

no_offsets : (numbers offsets : Bool) → (numbers || offsets) ≡ false → offsets ≡ false
no_offsets true offsets none = absurd (true≢false none)
no_offsets false offsets none = none

reported_same : (print : Print) (w : OutputOptions) (f : LineMatcher) (name : List ℕ) (with_name : Bool) (c : ContextPrinter) (n : ℕ)
    (flags : List Bool) (lines : List SplitLine) (i k j l : ℕ) → shows_as print w ≡ false →
    reported_lines print w name with_name c n flags (map (reported_item w f) (numbered i k lines))
    ≡ reported_lines print w name with_name c n flags (map (reported_item w f) (numbered j l lines))
reported_same Lines w f name with_name c n flags lines i k j l none =
    still_same w (shown with_name name) (no_numbers w.numbers w.offsets none) (no_offsets w.numbers w.offsets none) f c flags lines i k j l
reported_same Matches w f name with_name c n flags lines i k j l none =
    still_same w (shown with_name name) (no_numbers w.numbers w.offsets none) (no_offsets w.numbers w.offsets none) f c flags lines i k j l
reported_same Count w f name with_name c n flags lines i k j l none = refl
reported_same CountMatches w f name with_name c n flags lines i k j l none =
    ap (λ m. count_line w (shown with_name name) (n + m)) (matches_same w f i k j l flags lines)
reported_same NameIfAny w f name with_name c n flags lines i k j l none = refl
reported_same NameIfNone w f name with_name c n flags lines i k j l none = refl
reported_same Nothing w f name with_name c n flags lines i k j l none = refl

module _ (t : Task) (f : LineMatcher) (number place : ℕ) (c : Reporter) where
  abbrev at : ℕ → ℕ → Progress
  at i k = record { number = i; place = k; telling = c }

  told_same : (i k j l : ℕ) (lines : List SplitLine) → shows_numbers t.what.now ≡ false →
      reported_bytes t f (at i k) lines ≡ reported_bytes t f (at j l) lines
  told_same i k j l lines none =
      ap (λ flags. reported_lines t.what.now.print t.what.now t.name.now t.with_name c.course (number_of t.what.now.print c) flags
      (map (reported_item t.what.now f) (numbered i k lines)))
      (flags_same t.what.now f c.count i k j l lines)
      ∙ reported_same t.what.now.print t.what.now f t.name.now t.with_name c.course (number_of t.what.now.print c)
      (flags_after t.what.now f c.count (numbered j l lines)) lines i k j l none

  counted_same : (i k j l : ℕ) (lines : List SplitLine) → counts_lines t f (at i k) lines ≡ counts_lines t f (at j l) lines
  counted_same i k j l lines = ap (λ flags. c.count + count_selected flags) (flags_same t.what.now f c.count i k j l lines)

  -- lines that were skipped need not be counted
  pub passes_uncounted : (p : Progress) (lines rest out now : List ℕ) (j l : ℕ) → shows_numbers t.what.now ≡ false →
      PassesLinesTo t f p (at number place) lines rest out now → PassesLinesTo t f p (at j l) lines rest out now
  passes_uncounted p lines rest out now j l none passes = record {
    lack = passes.lack;
    printed =
        λ lack more. passes.printed lack more ∙ ap (λ reported. now ++ reported) (told_same number place j l (split_lines (rest ++ more))
        none);
    counted = λ lack more. counted_same j l number place (split_lines (rest ++ more)) ∙ passes.counted lack more;
  }

pub passed_if_counted : (t : Task) (f : LineMatcher) (p : Progress) (now : Reporter) (c : ContextPrinter) (number place held start : ℕ)
    (text part out : List ℕ) → now ≡ p.telling → MaySkip t.what.now p.telling.course → AreWhole text → start ≤ length text → 0 < start →
    IsLineStart text start → held ≡ held_of t.what.now → held ≤ count_by is_feed (drop start text) → part ≡ take start text →
    (shows_numbers t.what.now ≡ true → number ≡ p.number + count_by is_feed part) →
    (shows_numbers t.what.now ≡ true → place ≡ p.place + length part) →
    c.left ≡ now.course.left → c.waiting.items ≡ [] → c.known ≡ after_hidden now.course.known →
    PassesLinesTo t f p (record p { number = number; place = place; telling = record now { course = c } }) text (drop start text) out out
passed_if_counted t f p now c number place held start text part out is_now may whole within some starts held_is enough cut numbers places
    same empty known =
    subst (λ (u : Reporter). PassesLinesTo t f p (record p { number = number; place = place; telling = record u { course = c } }) text
    (drop start text) out out) (sym is_now) (by (shows_numbers t.what.now) refl)
  where
    feeds : ℕ
    feeds = count_by is_feed part

    long : length part ≡ start
    long = ap length cut ∙ length-take-le start text within

    left : c.left ≡ p.telling.course.left
    left = same ∙ ap (λ (u : Reporter). u.course.left) is_now

    hidden : c.known ≡ after_hidden p.telling.course.known
    hidden = known ∙ ap (λ (u : Reporter). after_hidden u.course.known) is_now

    by : (v : Bool) → shows_numbers t.what.now ≡ v →
        PassesLinesTo t f p (record p { number = number; place = place; telling = record (p.telling) { course = c } }) text
        (drop start text) out out
    by true is =
        passed_over t f p c number place held feeds start text part out may whole within some starts held_is enough cut refl (numbers is)
        (places is ∙ ap (λ k. p.place + k) long) left empty hidden
    by false is =
        passes_uncounted t f (p.number + feeds) (p.place + start) (record (p.telling) { course = c }) p text
        (drop start text) out out number
        place is
        (passed_over t f p c (p.number + feeds) (p.place + start) held feeds start text part out may whole within some starts held_is enough
        cut refl refl refl left empty hidden)
