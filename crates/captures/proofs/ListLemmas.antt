-- All matches with their slots, one after the other.
use Rattle.std.proofs.Common.{◌≡◌, ℕ, zero, suc, ◌+◌, ◌-◌, ◌<◌, ◌≤◌, ◌==◌, Bool, true, false, List, [], ◌∷◌, ◌++◌, All, length, map, take, replicate, Option, Some, None, option_map, if◌then◌else◌, inl, refl, sym, ap, ◌∙◌, subst, arith, append_assoc, append-nil, length-append}
use Rattle.std.proofs.lemmas.List.{length-map}
use Rattle.std.proofs.lemmas.Option.{none-some}
use Rattle.regex_hir.specs.Re.{Re, accept, attempt}
use Rattle.regex_hir.specs.Meaning.{alt_all}
use Rattle.regex_hir.specs.Find.{Match, find_after, matches_from}
use Rattle.regex_hir.specs.Text.{is_some_and}
use Rattle.regex_syntax.specs.declared.Config.{Config}
use Rattle.pattern_search.specs.Searches.{all_found, found_from, span_of_match, IsOfFirstPattern}
use Rattle.pattern_search.specs.Texts.{AreReadAs}
use Rattle.pattern_search.proofs.ForCallers.{all_from_start}
use Rattle.meta_regex.specs.declared.found_match.FoundMatch.{FoundMatch}
use Rattle.meta_regex.specs.Regexes.{AreFirstOfAll, HasFoundSpan, as_found, overlaid, span_of_row}
use Rattle.meta_regex.proofs.ForCallers.{IsListedSoFar, none_laid}
use Rattle.group_finder.specs.Slots.{no_offset, slots_of}
use Rattle.captures.specs.Captures.{AreFirstCaptured, rows_of}
use Rattle.captures.specs.Rows.{AreFilled}
use Rattle.captures.proofs.FoundLemmas.{found_there, spanned}
use Rattle.captures.proofs.RowLemmas.{all_laid, map_laid, rows_more, take_taken}

-- So many matches were taken and their slots written as far as there is room. What is left begins with the next match.
pub record IsSlotted (utf8 : Bool) (a : Re) (h : List ℕ) (width left count : ℕ) (old now : List ℕ) (filled : ℕ) (next : Option FoundMatch)
    : Type 0 where
  pub taken : List Match
  pub counted : count ≡ length taken
  pub rest : Option Match
  pub whole : all_found utf8 a h ≡ taken ++ matches_from (found_from utf8 a h) left rest
  pub spans : option_map span_of_match rest ≡ option_map span_of_row next
  pub from : (at : ℕ) × (rest ≡ found_from utf8 a h at)
  pub filled_are : AreFilled (rows_of width taken) old now filled

abbrev pub AreSlotted : Config → List (List ℕ) → List ℕ → ℕ → ℕ → ℕ → List ℕ → List ℕ → ℕ → Option FoundMatch → Type 0
AreSlotted config texts h width left count old now filled next = (res : List Re) → AreReadAs config texts res →
    IsSlotted config.utf8 (alt_all res) h width left count old now filled next

none_left : (s : ℕ → Option Match) (n : ℕ) (m : Option Match) → m ≡ None → matches_from s n m ≡ []
unfolding matches_from
none_left s zero m none = refl
none_left s (suc n) None none = refl
none_left s (suc n) (Some m) none = absurd (none-some m (sym none))

over : (s : ℕ → Option Match) (n : ℕ) (m : Option Match) → n ≡ 0 → matches_from s n m ≡ []
unfolding matches_from
over s zero m out = refl
over s (suc n) m out = absurd (omega (arith, out))

one_left : (s : ℕ → Option Match) (left less : ℕ) (m : Option Match) (w : Match) (end : ℕ) → left ≡ suc less → m ≡ Some w →
    w.trace.end ≡ end → matches_from s left m ≡ w ∷ matches_from s less (find_after s end)
unfolding matches_from
one_left s zero less m w end more some ends = absurd (omega (arith, more))
one_left s (suc n) less None w end more some ends = absurd (none-some w some)
one_left s (suc n) less (Some m) w end more some ends =
    let fewer : n ≡ less = omega (arith, more) in
    ap (λ (o : Option Match). matches_from s (suc n) o) some
    ∙ ap (λ (k : ℕ). w ∷ matches_from s k (find_after s w.trace.end)) fewer
    ∙ ap (λ (e : ℕ). w ∷ matches_from s less (find_after s e)) ends

after_from : (s : ℕ → Option Match) (end : ℕ) (b : Bool) → (at : ℕ) × ((if b then s (end + 1) else s end) ≡ s at)
after_from s end true = (end + 1, refl)
after_from s end false = (end, refl)

module _ (utf8 : Bool) (a : Re) (h : List ℕ) (width : ℕ) (old : List ℕ) where
  abbrev s : ℕ → Option Match
  s = found_from utf8 a h

  -- what is written for the next match
  abbrev pub Writes : FoundMatch → List ℕ → ℕ → List ℕ → ℕ → Type 0
  Writes f rows filled now more = (m : Match) → span_of_match m ≡ span_of_row f → m.start ≤ length h →
      attempt h a accept m.start ≡ Some m.trace → (done before : List ℕ) → AreFilled done before rows filled →
      AreFilled (done ++ slots_of m width) before now more

  module _ (left count : ℕ) (rows : List ℕ) (filled : ℕ) (o : Option FoundMatch) (f : FoundMatch)
      (it : IsSlotted utf8 a h width left count old rows filled o) (some : o ≡ Some f) where
    taken_next : (w : Match) × (it.rest ≡ Some w) × (span_of_match w ≡ span_of_row f)
    taken_next = spanned it.rest f (it.spans ∙ ap (option_map span_of_row) some)

    laid_next : (now : List ℕ) (more : ℕ) → Writes f rows filled now more →
        AreFilled (rows_of width (it.taken ++ taken_next.0 ∷ [])) old now more
    laid_next now more writes =
        let there = found_there utf8 a h it.from.0 taken_next.0 (sym it.from.1 ∙ taken_next.1) in
        subst (λ (xs : List ℕ). AreFilled xs old now more) (sym (rows_more width it.taken taken_next.0))
        (writes taken_next.0 taken_next.2 there.0 there.1 (rows_of width it.taken) old it.filled_are)

    whole_next : (less : ℕ) → left ≡ suc less → all_found utf8 a h ≡
        (it.taken ++ taken_next.0 ∷ []) ++ matches_from s less (find_after s f.end)
    whole_next less more =
        it.whole
        ∙ ap (λ (xs : List Match). it.taken ++ xs)
        (one_left s left less it.rest taken_next.0 f.end more taken_next.1 (ap (λ (p : ℕ × ℕ). p.1) taken_next.2))
        ∙ sym (append_assoc it.taken (taken_next.0 ∷ []) (matches_from s less (find_after s f.end)))

    counted_next : count + 1 ≡ length (it.taken ++ taken_next.0 ∷ [])
    counted_next = ap (λ (k : ℕ). k + 1) it.counted ∙ sym (length-append it.taken (taken_next.0 ∷ []))

    pub slotted_goes_on : (less : ℕ) (now : List ℕ) (more : ℕ) (next : Option FoundMatch) → left ≡ suc less → Writes f rows filled now more →
        option_map span_of_match (find_after s f.end) ≡ option_map span_of_row next →
        IsSlotted utf8 a h width less (count + 1) old now more next
    slotted_goes_on less now more next some_left writes found = record {
      taken = it.taken ++ taken_next.0 ∷ [];
      counted = counted_next;
      rest = find_after s f.end;
      whole = whole_next less some_left;
      spans = found;
      from = after_from s f.end (is_some_and (s f.end) (λ (m : Match). m.trace.end == f.end));
      filled_are = laid_next now more writes;
    }

    -- the search for the match after it fails
    pub slotted_fails : (now : List ℕ) (more : ℕ) → 0 < left → Writes f rows filled now more →
        now ≡ overlaid (rows_of width (take (count + 1) (all_found utf8 a h))) old
    slotted_fails now more some_left writes =
        let less : left ≡ suc (left - 1) = omega (arith, some_left) in
        (laid_next now more writes).laid
        ∙ ap (λ (xs : List Match). overlaid (rows_of width xs) old)
        (sym (ap (take (count + 1)) (whole_next (left - 1) less)
        ∙ take_taken (it.taken ++ taken_next.0 ∷ []) _ (count + 1) counted_next))

  module _ (left count : ℕ) (rows : List ℕ) (filled : ℕ) (o : Option FoundMatch)
      (it : IsSlotted utf8 a h width left count old rows filled o) where
    nothing_left : it.rest ≡ None → all_found utf8 a h ≡ it.taken
    nothing_left none = it.whole ∙ ap (λ (xs : List Match). it.taken ++ xs) (none_left s left it.rest none) ∙ append-nil it.taken

    spanless : (m : Option Match) (x : Option FoundMatch) → option_map span_of_match m ≡ option_map span_of_row x → x ≡ None → m ≡ None
    spanless None x e none = refl
    spanless (Some m) x e none = absurd (none-some (span_of_match m) (sym (e ∙ ap (option_map span_of_row) none)))

    pub slotted_ends : o ≡ None → rows ≡ overlaid (rows_of width (all_found utf8 a h)) old
    slotted_ends none =
        it.filled_are.laid
        ∙ ap (λ (xs : List Match). overlaid (rows_of width xs) old) (sym (nothing_left (spanless it.rest o it.spans none)))

    pub slotted_runs_out : left ≡ 0 → rows ≡ overlaid (rows_of width (all_found utf8 a h)) old
    slotted_runs_out out =
        it.filled_are.laid
        ∙ ap (λ (xs : List Match). overlaid (rows_of width xs) old)
        (sym (it.whole ∙ ap (λ (xs : List Match). it.taken ++ xs) (over s left it.rest out) ∙ append-nil it.taken))

    -- the slots of the next match can't be found
    pub slotted_stops : (now : List ℕ) → ((done before : List ℕ) → AreFilled done before rows filled →
        now ≡ overlaid (done ++ replicate width no_offset) before) →
        now ≡ overlaid (rows_of width (take count (all_found utf8 a h)) ++ replicate width no_offset) old
    slotted_stops now cleared =
        cleared (rows_of width it.taken) old it.filled_are
        ∙ ap (λ (xs : List Match). overlaid (rows_of width xs ++ replicate width no_offset) old)
        (sym (ap (take count) it.whole ∙ take_taken it.taken _ count it.counted))

module _ (config : Config) (texts : List (List ℕ)) (h : List ℕ) where
  pub slotted_begins : (width : ℕ) (old : List ℕ) (next : Option FoundMatch) → HasFoundSpan config texts h 0 next →
      AreSlotted config texts h width (length h + 1 - 0) 0 old old 0 next
  slotted_begins width old next found res read = let whole : length h + 1 ≡ length h + 1 - 0 = omega arith in record {
    taken = [];
    counted = refl;
    rest = found_from config.utf8 (alt_all res) h 0;
    whole = all_from_start config.utf8 (alt_all res) h
        ∙ ap (λ (n : ℕ). matches_from (found_from config.utf8 (alt_all res) h) n (found_from config.utf8 (alt_all res) h 0)) whole;
    spans = found res read;
    from = (0, refl);
    filled_are = record { laid = sym (none_laid old); filled_are = omega arith };
  }

  pub none_captured_yet : (width : ℕ) (old : List ℕ) → AreFirstCaptured config texts h width 0 old old
  none_captured_yet width old res read = inl (sym (none_laid old))

  -- ---- the rows, if the slots of the next match can't be found
  pub first_so_far : (left count : ℕ) (old rows : List FoundMatch) (o : Option FoundMatch) →
      IsListedSoFar config texts h left count old rows o → AreFirstOfAll config texts h count old rows
  first_so_far left count old rows o it = record {
    count = λ res read.
        let all = it.rest res read in
        omega (
          arith,
          it.counted,
          length-map it.taken span_of_row,
          length-map (all_found config.utf8 (alt_all res) h) span_of_match,
          length-append (map span_of_row it.taken) (map span_of_match (matches_from (found_from config.utf8 (alt_all res) h) left all.0)),
          ap length all.2,
        );
    rows = λ res read.
        let all = it.rest res read in
        ap (map span_of_row) it.laid ∙ map_laid span_of_row it.taken old
        ∙ ap (λ (xs : List (ℕ × ℕ)). overlaid xs (map span_of_row old))
        (sym (ap (take count) all.2
        ∙ take_taken (map span_of_row it.taken) _ count (it.counted ∙ sym (length-map it.taken span_of_row))));
    patterns = λ res read.
        let P : FoundMatch → Type 0 = λ r. IsOfFirstPattern res h (as_found r) in
        subst (λ (rs : List FoundMatch). All P (take count rs)) (sym it.laid)
        (subst (λ (n : ℕ). All P (take n (overlaid it.taken old))) (sym it.counted) (all_laid P it.taken old (it.named res read)));
  }
