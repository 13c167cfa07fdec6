-- Lines without a match of which none is reported: the report goes on after all of them at once, except for the last ones.
use Rattle.std.proofs.Common.{◌≡◌, ◌≤◌, ◌<◌, ℕ, zero, suc, ◌+◌, Bool, true, false, not, ◌&&◌, List, [], ◌∷◌, ◌++◌, All, length, map}
use Rattle.std.proofs.Common.{◌-◌, cond, count_by, take, drop, slice_range, Some, None, if◌then◌else◌, refl, sym, ap, ap₂, ◌∙◌, subst}
use Rattle.std.proofs.Common.{arith, append_assoc, take-append-drop, length-drop}
use Rattle.std.proofs.lemmas.List.{length-take-le, take_rest}
use Rattle.std.proofs.lemmas.List.Elements.{All-head, All-tail}
use Rattle.std.proofs.lemmas.List.Folds.{drop_split}
use Rattle.std.proofs.lemmas.List.Sums.{sum_by-append}
use Rattle.std.specs.List.{position}
use Rattle.std.specs.Prelude.{nat_lt}
use Rattle.look_core.proofs.ForCallers.{All-left, All-right}
use Rattle.grep_core.specs.declared.progress.Progress.{Progress}
use Rattle.grep_core.specs.declared.progress.Task.{Task}
use Rattle.grep_core.specs.declared.context_printer.ContextPrinter.{ContextPrinter}
use Rattle.grep_core.specs.declared.output_options.Print.{Print}
use Rattle.grep_core.specs.declared.output_options.Print.TheVariants.{Lines, Matches, Count, CountMatches, NameIfAny, NameIfNone, Nothing}
use Rattle.grep_core.specs.declared.output_options.OutputOptions.{OutputOptions}
use Rattle.grep_core.specs.Blocks.{reported_bytes, counts_lines}
use Rattle.line_search.specs.Candidates.{IsLineStart}
use Rattle.grep_core.specs.ContextPrinting.{Item, print_item, still, waiting_item}
use Rattle.line_search.specs.Lines.{SplitLine, ended, numbered, split_lines}
use Rattle.grep_core.specs.Skipping.{AreWhole, HasNoMatch, MaySkip, PassesLinesTo, held_of}
use Rattle.line_search.specs.LineMatchers.{LineMatcher}
use Rattle.grep_core.specs.Report.{before_of, after_of, after_hidden, count_line, name_line}
use Rattle.grep_core.specs.Selecting.{count_selected}
use Rattle.grep_core.specs.Reporting.{shown, matches_in, number_of, reported_item, prints_lines, reported_lines, may_select, flags_after}
use Rattle.line_search.proofs.ForCallers.{is_feed}
use Rattle.grep_core.proofs.BlockLemmas.{turn, turn_counted}
use Rattle.grep_core.proofs.JoinLemmas.{whole_start, whole_range}
use Rattle.grep_core.proofs.RunLemmas.{one_lacks, others_lack}
use Rattle.grep_core.proofs.StepLemmas.{rest, passes, known_after, known_some}
use Rattle.grep_core.proofs.TellingLemmas.{flags_step, selects}
use Rattle.grep_core.proofs.WholeLemmas.{all_bytes, whole_joins, whole_counts, whole_bytes, whole_behind, whole_none, some_whole}

unselected : (w : OutputOptions) (n : ℕ) → w.invert ≡ false → false ≡ selects w n false
unselected w n kept = sym (ap (λ v. (if v then not false else false) && may_select w.most n) kept)

no_more : (n : ℕ) → n ≡ n + 0
no_more n = omega arith

more_first : (a n : ℕ) → (a + 1) + n ≡ a + suc n
more_first a n = omega arith

more_bytes : (a n m : ℕ) → (a + n + 1) + m ≡ a + (n + 1 + m)
more_bytes a n m = omega arith

abbrev none_of : List Item → List Bool
none_of items = map (λ _. false) items

none_counted : (items : List Item) (flags : List Bool) → count_selected (none_of items ++ flags) ≡ count_selected flags
none_counted [] flags = refl
none_counted (x ∷ xs) flags = none_counted xs flags

none_matched : (items : List Item) (flags : List Bool) (more : List Item) →
    matches_in (none_of items ++ flags) (items ++ more) ≡ matches_in flags more
none_matched [] flags more = refl
none_matched (x ∷ xs) flags more = none_matched xs flags more

-- ---- what is reported of lines of which the first ones aren't selected
module _ (w : OutputOptions) (name : List ℕ) (with_name : Bool) (c d : ContextPrinter) (n : ℕ) (front last items : List Item) (flags : List
    Bool) where
  abbrev IsPassed : Print → Type 0
  IsPassed p = reported_lines p w name with_name c n (none_of front ++ (none_of last ++ flags)) (front ++ (last ++ items))
      ≡ reported_lines p w name with_name d n (none_of last ++ flags) (last ++ items)

  passed_lines : before_of w.context ≤ length last → c.left ≡ 0 → d.left ≡ c.left → d.waiting.items ≡ [] →
      d.known ≡ known_after c.known (length (map waiting_item c.waiting.items) + length front) →
      still w (shown with_name name) c (none_of front ++ (none_of last ++ flags)) (front ++ (last ++ items))
      ≡ still w (shown with_name name) d (none_of last ++ flags) (last ++ items)
  passed_lines many none same empty known =
      let print = print_item w (shown with_name name) in
      let queue : List Item = map waiting_item c.waiting.items in
      let before : ℕ = before_of w.context in
      let after : ℕ = after_of w.context in
      ap (λ k. rest w print before after c.known k queue (none_of front ++ (none_of last ++ flags)) (front ++ (last ++ items))) none
      ∙ passes w print before after c.known queue front last flags items many
      ∙ ap₂ (λ b k. rest w print before after b k [] (none_of last ++ flags) (last ++ items)) (sym known) (sym (same ∙ none))
      ∙ ap (λ ws. rest w print before after d.known d.left (map waiting_item ws) (none_of last ++ flags) (last ++ items)) (sym empty)

  fewer : (n + count_selected (none_of front ++ (none_of last ++ flags))) ≡ n + count_selected (none_of last ++ flags)
  fewer = ap (λ k. n + k) (none_counted front (none_of last ++ flags))

  passed_as : (p : Print) → (prints_lines p ≡ true → before_of w.context ≤ length last) → (prints_lines p ≡ true → c.left ≡ 0) →
      d.left ≡ c.left → d.waiting.items ≡ [] →
      d.known ≡ known_after c.known (length (map waiting_item c.waiting.items) + length front) → IsPassed p
  passed_as Lines many none same empty known = passed_lines (many refl) (none refl) same empty known
  passed_as Matches many none same empty known = passed_lines (many refl) (none refl) same empty known
  passed_as Count many none same empty known = ap (count_line w (shown with_name name)) fewer
  passed_as CountMatches many none same empty known =
      ap (λ m. count_line w (shown with_name name) (n + m)) (none_matched front (none_of last ++ flags) (last ++ items))
  passed_as NameIfAny many none same empty known = ap (λ k. if nat_lt 0 k then name_line w name else []) fewer
  passed_as NameIfNone many none same empty known = ap (λ k. if nat_lt 0 k then [] else name_line w name) fewer
  passed_as Nothing many none same empty known = refl

-- ---- lines without a match aren't selected
module _ (w : OutputOptions) (f : LineMatcher) (n : ℕ) (kept : w.invert ≡ false) where
  abbrev items : ℕ → ℕ → List SplitLine → List Item
  items number place lines = map (reported_item w f) (numbered number place lines)

  abbrev flags : ℕ → ℕ → List SplitLine → List Bool
  flags number place lines = flags_after w f n (numbered number place lines)

  items_on : (number place : ℕ) (lines more : List SplitLine) →
      items number place (lines ++ more) ≡ items number place lines ++ items (number + length lines) (place + all_bytes lines) more
  items_on number place [] more = ap₂ (λ i k. items i k more) (no_more number) (no_more place)
  items_on number place (line ∷ lines) more =
      ap (λ rest. reported_item w f (record { number = number; place = place; content = line }) ∷ rest)
      (items_on (number + 1) (place + length line.bytes + 1) lines more
      ∙ ap₂ (λ i k. items (number + 1) (place + length line.bytes + 1) lines ++ items i k more)
      (more_first number (length lines)) (more_bytes place (length line.bytes) (all_bytes lines)))

  as_many : (number place : ℕ) (lines : List SplitLine) → length (items number place lines) ≡ length lines
  as_many number place [] = refl
  as_many number place (line ∷ lines) = ap suc (as_many (number + 1) (place + length line.bytes + 1) lines)

  flags_on : (number place : ℕ) (lines more : List SplitLine) → All (HasNoMatch f) lines →
      flags number place (lines ++ more)
      ≡ none_of (items number place lines) ++ flags (number + length lines) (place + all_bytes lines) more
  flags_on number place [] more lack = ap₂ (λ i k. flags i k more) (no_more number) (no_more place)
  flags_on number place (line ∷ lines) more lack =
      flags_step w f n n false false (record { number = number; place = place; content = line })
      (numbered (number + 1) (place + length line.bytes + 1) (lines ++ more)) (unselected w n kept)
      (sym ((All-head (HasNoMatch f) line lines lack).no_match)) (no_more n)
      ∙ ap (λ rest. false ∷ rest)
      (flags_on (number + 1) (place + length line.bytes + 1) lines more (All-tail (HasNoMatch f) line lines lack)
      ∙ ap₂ (λ i k. none_of (items (number + 1) (place + length line.bytes + 1) lines) ++ flags i k more)
      (more_first number (length lines)) (more_bytes place (length line.bytes) (all_bytes lines)))

  module _ (name : List ℕ) (with_name : Bool) (c d : ContextPrinter) (m : ℕ) (front last more : List SplitLine) (number place next_number
      next_offset : ℕ)
      (lack : All (HasNoMatch f) front) (also : All (HasNoMatch f) last)
      (numbers : next_number ≡ number + length front) (places : next_offset ≡ place + all_bytes front) where
    abbrev reports : ContextPrinter → ℕ → ℕ → List SplitLine → List ℕ
    reports e i k lines = reported_lines w.print w name with_name e m (flags i k lines) (items i k lines)

    flags_two : flags number place (front ++ (last ++ more))
        ≡ none_of (items number place front) ++ flags next_number next_offset (last ++ more)
    flags_two = flags_on number place front (last ++ more) lack
        ∙ sym (ap₂ (λ i k. none_of (items number place front) ++ flags i k (last ++ more)) numbers places)

    run_counted : n + count_selected (flags next_number next_offset (last ++ more)) ≡ n + count_selected
        (flags number place (front ++ (last ++ more)))
    run_counted = ap (λ k. n + k)
        (sym (ap count_selected flags_two ∙ none_counted (items number place front) (flags next_number next_offset (last ++ more))))

    run_told : (prints_lines w.print ≡ true → before_of w.context ≤ length last) → (prints_lines w.print ≡ true → c.left ≡ 0) →
        d.left ≡ c.left → d.waiting.items ≡ [] →
        d.known ≡ known_after c.known (length (map waiting_item c.waiting.items) + length (items number place front)) →
        reports c number place (front ++ (last ++ more)) ≡ reports d next_number next_offset (last ++ more)
    run_told many none same empty known =
        let i : ℕ = next_number + length last in
        let k : ℕ = next_offset + all_bytes last in
        let now : flags next_number next_offset (last ++ more) ≡ none_of (items next_number next_offset last) ++ flags i k more =
        flags_on next_number next_offset last more also in
        let ones : items next_number next_offset (last ++ more) ≡ items next_number next_offset last ++ items i k more =
        items_on next_number next_offset last more in
        let before : items number place (front ++ (last ++ more)) ≡
        items number place front ++ items next_number next_offset (last ++ more) =
        items_on number place front (last ++ more)
        ∙ sym (ap₂ (λ i k. items number place front ++ items i k (last ++ more)) numbers places) in
        let enough : prints_lines w.print ≡ true → before_of w.context ≤ length (items next_number next_offset last) =
        λ is. subst (λ m. before_of w.context ≤ m) (sym (as_many next_number next_offset last)) (many is) in
        ap₂ (λ fs its. reported_lines w.print w name with_name c m fs its)
        (flags_two ∙ ap (λ fs. none_of (items number place front) ++ fs) now)
        (before ∙ ap (λ its. items number place front ++ its) ones)
        ∙ passed_as w name with_name c d m (items number place front) (items next_number next_offset last) (items i k more) (flags i k more)
        w.print enough none same empty known
        ∙ sym (ap₂ (λ fs its. reported_lines w.print w name with_name d m fs its) now ones)

-- ---- haystacks of such lines
module _ (text : List ℕ) (start : ℕ) (whole : AreWhole text) (starts : IsLineStart text start) where
  front_whole : AreWhole (take start text)
  front_whole = whole_start text start starts

  last_whole : AreWhole (drop start text)
  last_whole = whole_behind text start whole

  both : split_lines text ≡ split_lines (take start text) ++ split_lines (drop start text)
  both = ap split_lines (sym (take-append-drop start text)) ∙ whole_joins (take start text) (drop start text) front_whole

  both_more : (more : List ℕ) →
      split_lines (text ++ more) ≡ split_lines (take start text) ++ (split_lines (drop start text) ++ split_lines more)
  both_more more = whole_joins text more whole ∙ ap (λ lines. lines ++ split_lines more) both
      ∙ append_assoc (split_lines (take start text)) (split_lines (drop start text)) (split_lines more)

  last_more : (more : List ℕ) → split_lines (drop start text ++ more) ≡ split_lines (drop start text) ++ split_lines more
  last_more more = whole_joins (drop start text) more last_whole

  module _ (f : LineMatcher) (lack : All (HasNoMatch f) (split_lines text)) where
    parted : All (HasNoMatch f) (split_lines (take start text) ++ split_lines (drop start text))
    parted = subst (λ (lines : List SplitLine). All (HasNoMatch f) lines) both lack

    front_lack : All (HasNoMatch f) (split_lines (take start text))
    front_lack = All-left (HasNoMatch f) (split_lines (take start text)) (split_lines (drop start text)) parted

    last_lack : All (HasNoMatch f) (split_lines (drop start text))
    last_lack = All-right (HasNoMatch f) (split_lines (take start text)) (split_lines (drop start text)) parted

held_lines : (w : OutputOptions) (held n : ℕ) → held ≡ held_of w → held ≤ n → prints_lines w.print ≡ true → before_of w.context ≤ n
held_lines w held n is few lines =
    subst (λ m. m ≤ n) (is ∙ ap (λ b. if b then before_of w.context else 0) lines) few

pub passed_over : (t : Task) (f : LineMatcher) (p : Progress) (c : ContextPrinter) (number place held feeds start : ℕ) (text part : List ℕ)
    (out : List ℕ) → MaySkip t.what.now p.telling.course → AreWhole text → start ≤ length text → 0 < start → IsLineStart text start →
    held ≡ held_of t.what.now → held ≤ count_by is_feed (drop start text) → part ≡ take start text → feeds ≡ count_by is_feed part →
    number ≡ p.number + feeds → place ≡ p.place + start → c.left ≡ p.telling.course.left → c.waiting.items ≡ [] →
    c.known ≡ after_hidden p.telling.course.known →
    PassesLinesTo t f p (record p { number = number; place = place; telling = record (p.telling) { course = c } }) text (drop start text) out out
passed_over t f p c number place held feeds start text part out may whole within some starts held_is enough cut counted numbers places
    same empty known =
    let w : OutputOptions = t.what.now in
    let front : List SplitLine = split_lines (take start text) in
    let last : List SplitLine = split_lines (drop start text) in
    let long = length-take-le start text within in
    let as_far : place ≡ p.place + all_bytes front =
    places ∙ ap (λ k. p.place + k) (sym (whole_bytes (take start text) (front_whole text start whole starts) ∙ long)) in
    let as_many_lines : number ≡ p.number + length front =
    numbers ∙ ap (λ k. p.number + k)
    (counted ∙ ap (count_by is_feed) cut ∙ sym (whole_counts (take start text) (front_whole text start whole starts))) in
    let many : held ≤ length last =
    subst (λ m. held ≤ m) (sym (whole_counts (drop start text) (last_whole text start whole starts))) enough in
    let some_front : 0 < length front =
    some_whole (take start text) (front_whole text start whole starts) (omega (arith, some, long)) in
    let known_so : c.known ≡ known_after p.telling.course.known
    (length (map waiting_item p.telling.course.waiting.items) + length (items w f p.telling.count may.kept p.number p.place front)) =
    known ∙ sym (known_some p.telling.course.known _
    (let m = as_many w f p.telling.count may.kept p.number p.place front in omega (arith, some_front, m))) in
    record {
      lack = λ lack. last_lack text start whole starts f lack;
      printed = λ lack more. ap (λ l. out ++ l)
          (ap (λ lines. reported_bytes t f p lines) (both_more text start whole starts more)
          ∙ run_told w f p.telling.count may.kept t.name.now t.with_name p.telling.course c (number_of w.print p.telling) front last (split_lines more)
          p.number p.place number place (front_lack text start whole starts f lack) (last_lack text start whole starts f lack)
          as_many_lines as_far (held_lines w held (length last) held_is many) may.none_owed same empty known_so
          ∙ sym (ap (λ lines. reported_bytes t f
          (record p { number = number; place = place; telling = record (p.telling) { course = c } }) lines)
          (last_more text start whole starts more)));
      counted = λ lack more.
          ap (λ lines. counts_lines t f (record p { number = number; place = place; telling = record (p.telling) { course = c } }) lines)
          (last_more text start whole starts more)
          ∙ run_counted w f p.telling.count may.kept t.name.now t.with_name p.telling.course c (number_of w.print p.telling) front last (split_lines more)
          p.number p.place number place (front_lack text start whole starts f lack) (last_lack text start whole starts f lack)
          as_many_lines as_far
          ∙ sym (ap (λ lines. counts_lines t f p lines) (both_more text start whole starts more));
    }

-- ---- where the last lines start
pub falls : (new start : ℕ) → 0 < start → (0 < new → new ≤ start - 1) → new < start
falls zero start some before = some
falls (suc n) start some before = let less = before (omega arith) in omega (arith, less, some)

pub feeds_more : (text : List ℕ) (new start found : ℕ) → new < start → start ≤ length text → IsLineStart text start →
    found ≤ count_by is_feed (drop start text) → found + 1 ≤ count_by is_feed (drop new text)
feeds_more text new start found less within starts few =
    let low : new ≤ start = omega (arith, less) in
    let piece : List ℕ = slice_range text new start in
    let long : length piece ≡ start - new =
    length-take-le (start - new) (drop new text) (omega (arith, within, less, length-drop new text)) in
    let whole : AreWhole piece = whole_range text new start low starts in
    let some : 0 < length (split_lines piece) = some_whole piece whole (omega (arith, long, less)) in
    let all : count_by is_feed (drop new text) ≡ count_by is_feed piece + count_by is_feed (drop start text) =
    ap (count_by is_feed) (drop_split text new start low)
    ∙ sum_by-append (λ b. cond (is_feed b) 1 0) piece (drop start text) in
    omega (arith, all, few, some, whole_counts piece whole)

-- ---- runs of such lines
-- if no line feed is after those that were reported, all were
pub all_told : (block : List ℕ) (done : ℕ) → AreWhole block →
    position is_feed (take (length block - done) (drop done block)) ≡ None → length block ≤ done
all_told block done whole none =
    let rest : take (length block - done) (drop done block) ≡ drop done block = take_rest block done in
    let empty : length (drop done block) ≡ 0 =
    whole_none (drop done block) (whole_behind block done whole) (ap (position is_feed) (sym rest) ∙ none) in
    omega (arith, empty, length-drop done block)

pub passes_none : (t : Task) (f : LineMatcher) (p : Progress) (lines out : List ℕ) → PassesLinesTo t f p p lines lines out out
passes_none t f p lines out = record { lack = λ lack. lack; printed = λ lack more. refl; counted = λ lack more. refl }

pub then_passes : (t : Task) (f : LineMatcher) (p q r : Progress) (lines rest last out mid now : List ℕ) →
    PassesLinesTo t f p q lines rest out mid → PassesLinesTo t f q r rest last mid now → PassesLinesTo t f p r lines last out now
then_passes t f p q r lines rest last out mid now a b = record {
  lack = λ lack. b.lack (a.lack lack);
  printed = λ lack more. a.printed lack more ∙ b.printed (a.lack lack) more;
  counted = λ lack more. b.counted (a.lack lack) more ∙ a.counted lack more;
}

pub passes_line : (t : Task) (f : LineMatcher) (p q : Progress) (block text piece out now : List ℕ) (done len : ℕ) →
    text ≡ drop done block → position is_feed text ≡ Some len → piece ≡ take len text →
    (HasNoMatch f (ended piece) → (lines : List SplitLine) → out ++ reported_bytes t f p (ended piece ∷ lines) ≡
    now ++ reported_bytes t f q lines) →
    (HasNoMatch f (ended piece) → (lines : List SplitLine) → counts_lines t f q lines ≡ counts_lines t f p (ended piece ∷ lines)) →
    PassesLinesTo t f p q (drop done block) (drop (done + (len + 1)) block) out now
passes_line t f p q block text piece out now done len rest found cut reported counts = record {
  lack = λ lack. others_lack f block text piece done len rest found cut lack;
  printed = λ lack more.
      turn (reported_bytes t f) p q block more text piece (out ++ reported_bytes t f p (split_lines (drop done block ++ more))) out now
      done len
      rest found cut refl (reported (one_lacks f block text piece done len rest found cut lack));
  counted = λ lack more.
      turn_counted (counts_lines t f) p q block more text piece (counts_lines t f p (split_lines (drop done block ++ more))) done len
      rest found cut refl (counts (one_lacks f block text piece done len rest found cut lack));
}

-- of the same haystacks
pub passes_same : (t : Task) (f : LineMatcher) (p q : Progress) (lines same rest also out now : List ℕ) → lines ≡ same → rest ≡ also →
    PassesLinesTo t f p q lines rest out now → PassesLinesTo t f p q same also out now
passes_same t f p q lines same rest also out now one two a =
    subst (λ (l : List ℕ). PassesLinesTo t f p q l also out now) one (subst (λ (l : List ℕ). PassesLinesTo t f p q lines l out now) two a)
