-- Matches from an offset on, one after the other.
use Rattle.std.proofs.Common.{◌≡◌, ℕ, zero, suc, ◌+◌, ◌<◌, ◌≤◌, List, [], ◌∷◌, ◌++◌, All, length, map, slice_set, take, Option, Some, None, IfSome, option_map, inl, refl, sym, ap, ap₂, ◌∙◌, subst, arith, length-append}
use Rattle.std.proofs.lemmas.List.{length-map}
use Rattle.std.proofs.lemmas.List.Elements.{All-nil, All-cons, All-append}
use Rattle.regex_hir.specs.Re.{Re, accept, attempt}
use Rattle.regex_hir.specs.Meaning.{alt_all}
use Rattle.regex_hir.specs.Find.{Match}
use Rattle.regex_hir.proofs.FindLemmas.{first_between_past}
use Rattle.regex_syntax.specs.declared.Config.{Config}
use Rattle.pattern_search.specs.Searches.{found_from, span_of_match, IsOfFirstPattern}
use Rattle.pattern_search.specs.Texts.{AreReadAs}
use Rattle.pattern_search.proofs.ForCallers.{found_is, tried}
use Rattle.meta_regex.specs.declared.found_match.FoundMatch.{FoundMatch}
use Rattle.meta_regex.specs.Regexes.{HasFoundSpan, HasPattern, as_found, overlaid, span_of_row}
use Rattle.meta_regex.proofs.ForCallers.{none_laid}
use Rattle.group_finder.specs.Slots.{slots_of}
use Rattle.captures.specs.Captures.{rows_of}
use Rattle.captures.specs.NextMatches.{AreNext, AreNextBegun, after_all, after_match, after_span, matches_after, next_matches}
use Rattle.captures.specs.Rows.{AreFilled}
use Rattle.captures.proofs.FoundLemmas.{ends_inside, found_there, spanned}
use Rattle.captures.proofs.RowLemmas.{all_laid, map_laid, map_one_more, one_laid, rows_more}

-- ---- one match more
one_more : (s : ℕ → Option Match) (n at : ℕ) (o : Option Match) (w : Match) → o ≡ s at → s (after_all at (matches_after s n o)) ≡ Some w →
    length (matches_after s n o) ≡ n → matches_after s (suc n) o ≡ matches_after s n o ++ w ∷ []
unfolding matches_after after_all
one_more s zero at o w same is full = ap (matches_after s 1) (same ∙ is)
one_more s (suc n) at None w same is full = absurd (omega (arith, full))
one_more s (suc n) at (Some m) w same is full =
    ap (λ (ms : List Match). m ∷ ms) (one_more s n (after_match m) (s (after_match m)) w refl is (omega (arith, full)))

after_last : (at : ℕ) (ms : List Match) (w : Match) → after_all at (ms ++ w ∷ []) ≡ after_match w
unfolding after_all
after_last at [] w = refl
after_last at (m ∷ ms) w = after_last (after_match m) ms w

none_taken : (s : ℕ → Option Match) (o : Option Match) → matches_after s 0 o ≡ []
unfolding matches_after
none_taken s o = refl

after_none : (at : ℕ) → after_all at [] ≡ at
unfolding after_all
after_none at = refl

-- after the haystack nothing is found
pub none_beyond : (config : Config) (texts : List (List ℕ)) (h : List ℕ) (at : ℕ) → length h < at → HasFoundSpan config texts h at None
none_beyond config texts h at above res read =
    ap (option_map span_of_match)
    (found_is config.utf8 (alt_all res) h at ∙ first_between_past (tried config.utf8 h (alt_all res)) at (length h) above)

-- ---- so many matches from an offset on
-- They are in the rows, and the search for the next one begins at this offset.
pub record IsNextSoFar (config : Config) (texts : List (List ℕ)) (h : List ℕ) (from count at : ℕ) (old rows : List FoundMatch) : Type 0 where
  pub taken : List FoundMatch
  pub counted : count ≡ length taken
  pub laid : rows ≡ overlaid taken old
  pub named : (res : List Re) → AreReadAs config texts res → All (λ r. IsOfFirstPattern res h (as_found r)) taken
  pub spans : (res : List Re) → AreReadAs config texts res →
      map span_of_match (next_matches config res h from count) ≡ map span_of_row taken
  pub goes_on : (res : List Re) → AreReadAs config texts res → at ≡ after_all from (next_matches config res h from count)

-- Their slots are filled.
abbrev pub AreNextFilled : Config → List (List ℕ) → List ℕ → ℕ → ℕ → ℕ → List ℕ → List ℕ → ℕ → Type 0
AreNextFilled config texts h from width count old now filled = (res : List Re) → AreReadAs config texts res →
    AreFilled (rows_of width (next_matches config res h from count)) old now filled

module _ (config : Config) (texts : List (List ℕ)) (h : List ℕ) (from : ℕ) where
  none_yet : (res : List Re) → next_matches config res h from 0 ≡ []
  none_yet res = none_taken (found_from config.utf8 (alt_all res) h) (found_from config.utf8 (alt_all res) h from)

  pub next_begins : (old : List FoundMatch) → IsNextSoFar config texts h from 0 from old old
  next_begins old = record {
    taken = [];
    counted = refl;
    laid = sym (none_laid old);
    named = λ res read. All-nil (λ r. IsOfFirstPattern res h (as_found r));
    spans = λ res read. ap (map span_of_match) (none_yet res);
    goes_on = λ res read. sym (ap (after_all from) (none_yet res) ∙ after_none from);
  }

  pub filling_begins : (width : ℕ) (old : List ℕ) → AreNextFilled config texts h from width 0 old old 0
  filling_begins width old res read =
      subst (λ (ms : List Match). AreFilled (rows_of width ms) old old 0) (sym (none_yet res))
      (record { laid = sym (none_laid old); filled_are = omega arith })

  module _ (count at : ℕ) (old rows : List FoundMatch) (it : IsNextSoFar config texts h from count at old rows) where
    -- as many as were counted
    full : (res : List Re) → AreReadAs config texts res → length (next_matches config res h from count) ≡ count
    full res read =
        sym (length-map (next_matches config res h from count) span_of_match)
        ∙ ap length (it.spans res read)
        ∙ length-map it.taken span_of_row
        ∙ sym it.counted

    -- the rows hold them
    pub rows_are_next : AreNext config texts h from count at old rows
    rows_are_next = record {
      count = λ res read. sym (full res read);
      rows = λ res read.
          ap (map span_of_row) it.laid ∙ map_laid span_of_row it.taken old
          ∙ ap (λ (xs : List (ℕ × ℕ)). overlaid xs (map span_of_row old)) (sym (it.spans res read));
      patterns = λ res read.
          let P : FoundMatch → Type 0 = λ r. IsOfFirstPattern res h (as_found r) in
          subst (λ (rs : List FoundMatch). All P (take count rs)) (sym it.laid)
          (subst (λ (n : ℕ). All P (take n (overlaid it.taken old))) (sym it.counted) (all_laid P it.taken old (it.named res read)));
      goes_on = it.goes_on;
    }

    -- the match that the matcher finds next
    module _ (o : Option FoundMatch) (f : FoundMatch) (some : o ≡ Some f) (found : HasFoundSpan config texts h at o) where
      next_is : (res : List Re) → AreReadAs config texts res →
          (w : Match) × (found_from config.utf8 (alt_all res) h at ≡ Some w) × (span_of_match w ≡ span_of_row f)
      next_is res read = spanned (found_from config.utf8 (alt_all res) h at) f (found res read ∙ ap (option_map span_of_row) some)

      more_is : (res : List Re) (read : AreReadAs config texts res) →
          next_matches config res h from (count + 1) ≡ next_matches config res h from count ++ (next_is res read).0 ∷ []
      more_is res read =
          let s = found_from config.utf8 (alt_all res) h in
          let step : count + 1 ≡ suc count = omega arith in
          ap (λ (n : ℕ). matches_after s n (s from)) step
          ∙ one_more s count from (s from) (next_is res read).0 refl (ap s (sym (it.goes_on res read)) ∙ (next_is res read).1) (full res read)

      pub next_goes_on : (now : List FoundMatch) (next : ℕ) → now ≡ slice_set rows count f → HasPattern config texts h o →
          (f.end ≤ length h → next ≡ after_span f.start f.end) →
          IsNextSoFar config texts h from (count + 1) next old now
      next_goes_on now next put named after = record {
        taken = it.taken ++ f ∷ [];
        counted = ap (λ (k : ℕ). k + 1) it.counted ∙ sym (length-append it.taken (f ∷ []));
        laid = put ∙ ap₂ (λ (rs : List FoundMatch) (k : ℕ). slice_set rs k f) it.laid it.counted ∙ sym (one_laid it.taken old f);
        named = λ res read.
            let P : FoundMatch → Type 0 = λ r. IsOfFirstPattern res h (as_found r) in
            All-append P it.taken (f ∷ []) (it.named res read)
            (All-cons P f [] (subst (λ (p : Option FoundMatch). IfSome p P) some (named res read)) (All-nil P));
        spans = λ res read.
            ap (map span_of_match) (more_is res read)
            ∙ map_one_more span_of_match (next_matches config res h from count) (next_is res read).0
            ∙ ap₂ (λ (xs : List (ℕ × ℕ)) (x : ℕ × ℕ). xs ++ x ∷ []) (it.spans res read) (next_is res read).2
            ∙ sym (map_one_more span_of_row it.taken f);
        goes_on = λ res read.
            let w = next_is res read in
            let there = found_there config.utf8 (alt_all res) h at w.0 w.1 in
            let ends : w.0.trace.end ≡ f.end = ap (λ (p : ℕ × ℕ). p.1) w.2 in
            after (omega (arith, ends, ends_inside h res w.0 there.0 there.1))
            ∙ ap (λ (p : ℕ × ℕ). after_span p.0 p.1) (sym w.2)
            ∙ sym (ap (after_all from) (more_is res read) ∙ after_last from (next_matches config res h from count) w.0);
      }

      -- what is written for it
      pub filling_goes_on : (width : ℕ) (before slots now : List ℕ) (filled more : ℕ) →
          AreNextFilled config texts h from width count before slots filled → HasPattern config texts h o →
          ((res : List Re) → AreReadAs config texts res → IsOfFirstPattern res h (as_found f) → (m : Match) →
          span_of_match m ≡ span_of_row f → m.start ≤ length h →
          attempt h (alt_all res) accept m.start ≡ Some m.trace → (done first : List ℕ) → AreFilled done first slots filled →
          AreFilled (done ++ slots_of m width) first now more) →
          AreNextFilled config texts h from width (count + 1) before now more
      filling_goes_on width before slots now filled more filling named writes res read =
          let w = next_is res read in
          let there = found_there config.utf8 (alt_all res) h at w.0 w.1 in
          subst (λ (xs : List ℕ). AreFilled xs before now more)
          (sym (ap (rows_of width) (more_is res read) ∙ rows_more width (next_matches config res h from count) w.0))
          (writes res read (subst (λ (p : Option FoundMatch). IfSome p (λ r. IsOfFirstPattern res h (as_found r))) some (named res read)) w.0 w.2 there.0 there.1 (rows_of width (next_matches config res h from count)) before (filling res read))

pub filling_fails : (config : Config) (texts : List (List ℕ)) (h : List ℕ) (from width count : ℕ) (old slots : List ℕ) (filled : ℕ) →
    AreNextFilled config texts h from width count old slots filled → AreNextBegun config texts h from width count old slots
filling_fails config texts h from width count old slots filled filling res read = inl (filling res read).laid
