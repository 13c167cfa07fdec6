-- All matches, one after the other.
use Rattle.std.proofs.Common.{◌≡◌, ℕ, zero, suc, ◌+◌, ◌-◌, ◌<◌, ◌==◌, Bool, true, false, List, [], ◌∷◌, ◌++◌, length, map, slice_set}
use Rattle.std.proofs.Common.{Option, Some, None, All, subst, take}
use Rattle.std.specs.Prelude.{IfSome}
use Rattle.std.proofs.Common.{option_map, if◌then◌else◌, refl, sym, ap, ap₂, ◌∙◌, arith, append_assoc, append-nil}
use Rattle.std.proofs.Common.{length-append}
use Rattle.std.proofs.lemmas.Grind.{common_steps}
use Rattle.std.proofs.lemmas.Option.{none-some, same_Some}
use Rattle.std.proofs.lemmas.List.{length-map}
use Rattle.std.proofs.lemmas.List.Elements.{All-nil, All-cons, All-append}
use Rattle.regex_hir.specs.Re.{Re}
use Rattle.regex_hir.specs.Meaning.{alt_all}
use Rattle.regex_hir.specs.Find.{Match, find_after, matches_from}
use Rattle.regex_hir.specs.Text.{is_some_and}
use Rattle.regex_hir.proofs.FindLemmas.{first_between_past}
use Rattle.regex_syntax.specs.declared.Config.{Config}
use Rattle.pattern_search.specs.Searches.{found_from, all_found, span_of_match, IsOfFirstPattern}
use Rattle.pattern_search.specs.Texts.{AreReadAs}
use Rattle.pattern_search.proofs.ForCallers.{all_from_start}
use Rattle.pattern_search.proofs.ForCallers.{tried, found_is}
use Rattle.meta_regex.specs.declared.found_match.FoundMatch.{FoundMatch}
use Rattle.meta_regex.specs.Regexes.{AreAll, AreFirstOfAll, HasFoundSpan, HasPattern, IsNext, as_found, overlaid, span_of_row}
use Rattle.meta_regex.proofs.ListLemmas.{all_laid, map_laid, map_more, one_more_row, one_more_counted}

-- ---- the next one
-- after the haystack nothing is found
beyond : (utf8 : Bool) (a : Re) (h : List ℕ) (at : ℕ) → length h < at → found_from utf8 a h at ≡ None
beyond utf8 a h at above = found_is utf8 a h at ∙ first_between_past (tried utf8 h a) at (length h) above

same_end : (a : Option Match) (b : Option FoundMatch) (end : ℕ) → option_map span_of_match a ≡ option_map span_of_row b →
    is_some_and a (λ m. m.trace.end == end) ≡ is_some_and b (λ r. FoundMatch.end r == end)
same_end None None end e = refl
same_end None (Some b) end e = absurd (none-some (span_of_row b) e)
same_end (Some a) None end e = absurd (none-some (span_of_match a) (sym e))
same_end (Some a) (Some b) end e = ap (λ (s : ℕ × ℕ). s.1 == end) (same_Some (span_of_match a) (span_of_row b) e)

module _ (config : Config) (texts : List (List ℕ)) (h : List ℕ) (end : ℕ) where
  abbrev from : List Re → ℕ → Option Match
  from res = found_from config.utf8 (alt_all res) h

  -- after the haystack
  pub next_beyond : length h < end → IsNext config texts h end None
  next_beyond above res read =
      ap (λ (o : Option Match). option_map span_of_match (if is_some_and o (λ m. m.trace.end == end) then from res (end + 1) else o))
      (beyond config.utf8 (alt_all res) h end above)

  -- the one from there on, if it doesn't end there
  pub next_there : (o : Option FoundMatch) → HasFoundSpan config texts h end o → is_some_and o (λ r. FoundMatch.end r == end) ≡ false →
      IsNext config texts h end o
  next_there o found goes_on res read =
      ap (λ (b : Bool). option_map span_of_match (if b then from res (end + 1) else from res end))
      (same_end (from res end) o end (found res read) ∙ goes_on)
      ∙ found res read

  -- and else the one from the next offset on
  next_after : (o : Option FoundMatch) → HasFoundSpan config texts h end o → is_some_and o (λ r. FoundMatch.end r == end) ≡ true →
      (res : List Re) → AreReadAs config texts res → find_after (from res) end ≡ from res (end + 1)
  next_after o found ends res read =
      ap (λ (b : Bool). if b then from res (end + 1) else from res end) (same_end (from res end) o end (found res read) ∙ ends)

  pub next_later : (o next : Option FoundMatch) → HasFoundSpan config texts h end o → is_some_and o (λ r. FoundMatch.end r == end) ≡ true →
      HasFoundSpan config texts h (end + 1) next → IsNext config texts h end next
  next_later o next found ends later res read = ap (option_map span_of_match) (next_after o found ends res read) ∙ later res read

  pub next_none : (o : Option FoundMatch) → HasFoundSpan config texts h end o → is_some_and o (λ r. FoundMatch.end r == end) ≡ true →
      length h ≡ end → IsNext config texts h end None
  next_none o found ends last res read =
      ap (option_map span_of_match) (next_after o found ends res read ∙ beyond config.utf8 (alt_all res) h (end + 1) (omega (arith, last)))

-- ---- all of them
-- so many matches were taken and lie in the rows, and what is left begins with the next one
pub record IsListedSoFar (config : Config) (texts : List (List ℕ)) (h : List ℕ) (left count : ℕ) (old rows : List FoundMatch)
    (next : Option FoundMatch) : Type 0 where
  pub taken : List FoundMatch
  pub counted : count ≡ length taken
  pub laid : rows ≡ overlaid taken old
  pub named : (res : List Re) → AreReadAs config texts res → All (λ r. IsOfFirstPattern res h (as_found r)) taken
  pub next_named : HasPattern config texts h next
  pub rest : (res : List Re) → AreReadAs config texts res → (m : Option Match) ×
      (option_map span_of_match m ≡ option_map span_of_row next) ×
      (map span_of_match (all_found config.utf8 (alt_all res) h) ≡
      map span_of_row taken ++ map span_of_match (matches_from (found_from config.utf8 (alt_all res) h) left m))

module _ (config : Config) (texts : List (List ℕ)) (h : List ℕ) (old : List FoundMatch) where
  pub listing_begins : (next : Option FoundMatch) → old ≡ overlaid [] old → HasPattern config texts h next →
      HasFoundSpan config texts h 0 next → IsListedSoFar config texts h (length h + 1 - 0) 0 old old next
  listing_begins next laid named found = let whole : length h + 1 ≡ length h + 1 - 0 = omega arith in record {
    taken = [];
    counted = refl;
    laid = laid;
    named = λ res read. All-nil (λ r. IsOfFirstPattern res h (as_found r));
    next_named = named;
    rest = λ res read. (
      found_from config.utf8 (alt_all res) h 0,
      found res read,
      ap (map span_of_match) (all_from_start config.utf8 (alt_all res) h)
          ∙ ap (λ (n : ℕ). map span_of_match (matches_from (found_from config.utf8 (alt_all res) h) n
          (found_from config.utf8 (alt_all res) h 0))) whole,
    );
  }

  none_left : (s : ℕ → Option Match) (n : ℕ) → matches_from s n None ≡ []
  unfolding matches_from
  none_left s zero = refl
  none_left s (suc n) = refl

  over : (s : ℕ → Option Match) (m : Option Match) → matches_from s 0 m ≡ []
  unfolding matches_from
  over s m = refl

  one_left : (s : ℕ → Option Match) (n : ℕ) (m : Match) → matches_from s (suc n) (Some m) ≡ m ∷ matches_from s n (find_after s m.trace.end)
  unfolding matches_from
  one_left s n m = refl

  -- one of what is left was taken
  step_by : (s : ℕ → Option Match) (left rest : ℕ) (m : Option Match) (f : FoundMatch) → left ≡ suc rest →
      option_map span_of_match m ≡ Some (span_of_row f) →
      map span_of_match (matches_from s left m) ≡ span_of_row f ∷ map span_of_match (matches_from s rest (find_after s f.end))
  step_by s left rest None f more is = absurd (none-some (span_of_row f) is)
  step_by s left rest (Some w) f more is =
      let same : span_of_match w ≡ span_of_row f = same_Some (span_of_match w) (span_of_row f) is in
      ap (λ (n : ℕ). map span_of_match (matches_from s n (Some w))) more
      ∙ ap (map span_of_match) (one_left s rest w)
      ∙ ap₂ (λ (x : ℕ × ℕ) (y : ℕ). x ∷ map span_of_match (matches_from s rest (find_after s y))) same (ap (λ (x : ℕ × ℕ). x.1) same)

  pub listing_goes_on : (left less count : ℕ) (rows now : List FoundMatch) (o next : Option FoundMatch) (f : FoundMatch) →
      left ≡ suc less → o ≡ Some f →
      now ≡ slice_set rows count f → IsNext config texts h f.end next → HasPattern config texts h next →
      IsListedSoFar config texts h left count old rows o → IsListedSoFar config texts h less (count + 1) old now next
  listing_goes_on left less count rows now o next f more some put found named it = record {
    taken = it.taken ++ f ∷ [];
    counted = one_more_counted it.taken f count it.counted;
    laid = one_more_row it.taken f count old rows now it.counted it.laid put;
    named = λ res read.
        let P : FoundMatch → Type 0 = λ r. IsOfFirstPattern res h (as_found r) in
        All-append P it.taken (f ∷ []) (it.named res read)
        (All-cons P f [] (subst (λ (p : Option FoundMatch). IfSome p P) some (it.next_named res read)) (All-nil P));
    next_named = named;
    rest = λ res read.
        let s = found_from config.utf8 (alt_all res) h in
        let r = it.rest res read in (
          find_after s f.end,
          found res read,
          r.2
              ∙ ap (λ (xs : List (ℕ × ℕ)). map span_of_row it.taken ++ xs)
              (step_by s left less r.0 f more (r.1 ∙ ap (option_map span_of_row) some))
              ∙ sym (append_assoc (map span_of_row it.taken) (span_of_row f ∷ [])
              (map span_of_match (matches_from s less (find_after s f.end))))
              ∙ ap (λ (xs : List (ℕ × ℕ)). xs ++ map span_of_match (matches_from s less (find_after s f.end)))
              (sym (map_more span_of_row it.taken f)),
        );
  }

  all_by : (left count : ℕ) (rows : List FoundMatch) (o : Option FoundMatch) → (it : IsListedSoFar config texts h left count old rows o) →
      ((res : List Re) → AreReadAs config texts res →
      map span_of_match (all_found config.utf8 (alt_all res) h) ≡ map span_of_row it.taken) →
      AreAll config texts h count old rows
  all_by left count rows o it all = record {
    count = λ res read. it.counted ∙ sym (length-map it.taken span_of_row) ∙ ap length (sym (all res read))
        ∙ length-map (all_found config.utf8 (alt_all res) h) span_of_match;
    rows = λ res read. ap (map span_of_row) it.laid ∙ map_laid span_of_row it.taken old
        ∙ ap (λ (xs : List (ℕ × ℕ)). overlaid xs (map span_of_row old)) (sym (all res read));
    patterns = λ res read.
        let P : FoundMatch → Type 0 = λ r. IsOfFirstPattern res h (as_found r) in
        subst (λ (rs : List FoundMatch). All P (take count rs)) (sym it.laid)
        (subst (λ (n : ℕ). All P (take n (overlaid it.taken old))) (sym it.counted) (all_laid P it.taken old (it.named res read)));
  }

  no_match : (m : Option Match) (o : Option FoundMatch) → option_map span_of_match m ≡ option_map span_of_row o → o ≡ None → m ≡ None
  no_match None o e none = refl
  no_match (Some m) o e none = absurd (none-some (span_of_match m) (sym (e ∙ ap (option_map span_of_row) none)))

  pub listing_ends : (left count : ℕ) (rows : List FoundMatch) (o : Option FoundMatch) → o ≡ None →
      IsListedSoFar config texts h left count old rows o →
      AreAll config texts h count old rows
  listing_ends left count rows o none it = all_by left count rows o it (λ res read.
      let s = found_from config.utf8 (alt_all res) h in
      let r = it.rest res read in
      r.2
      ∙ ap (λ (xs : List Match). map span_of_row it.taken ++ map span_of_match xs)
      (ap (matches_from s left) (no_match r.0 o r.1 none) ∙ none_left s left)
      ∙ append-nil (map span_of_row it.taken))

  pub listing_runs_out : (left count : ℕ) (rows : List FoundMatch) (o : Option FoundMatch) → left ≡ 0 →
      IsListedSoFar config texts h left count old rows o →
      AreAll config texts h count old rows
  listing_runs_out left count rows o out it = all_by left count rows o it (λ res read.
      let s = found_from config.utf8 (alt_all res) h in
      let r = it.rest res read in
      r.2
      ∙ ap (λ (xs : List Match). map span_of_row it.taken ++ map span_of_match xs) (ap (λ (n : ℕ). matches_from s n r.0) out ∙ over s r.0)
      ∙ append-nil (map span_of_row it.taken))

  -- ---- the first of them, if a search fails
  -- a list begins with its first part
  first_part : {A : Type 0} (xs ys : List A) → take (length xs) (xs ++ ys) ≡ xs
  first_part xs ys = grind (arith, common_steps)

  first_by : (fs : List FoundMatch) (count : ℕ) (rows : List FoundMatch) → count ≡ length fs → rows ≡ overlaid fs old →
      ((res : List Re) → AreReadAs config texts res → All (λ r. IsOfFirstPattern res h (as_found r)) fs) →
      ((res : List Re) → AreReadAs config texts res → (more : List (ℕ × ℕ)) ×
      (map span_of_match (all_found config.utf8 (alt_all res) h) ≡ map span_of_row fs ++ more)) →
      AreFirstOfAll config texts h count old rows
  first_by fs count rows counted laid named begins = record {
    count = λ res read.
        let all = begins res read in
        omega (
          arith,
          counted,
          length-map fs span_of_row,
          length-map (all_found config.utf8 (alt_all res) h) span_of_match,
          length-append (map span_of_row fs) all.0,
          ap length all.1,
        );
    rows = λ res read.
        let all = begins res read in
        ap (map span_of_row) laid ∙ map_laid span_of_row fs old
        ∙ ap (λ (xs : List (ℕ × ℕ)). overlaid xs (map span_of_row old))
        (sym (first_part (map span_of_row fs) all.0)
        ∙ ap (λ (n : ℕ). take n (map span_of_row fs ++ all.0)) (length-map fs span_of_row ∙ sym counted)
        ∙ ap (take count) (sym all.1));
    patterns = λ res read.
        let P : FoundMatch → Type 0 = λ r. IsOfFirstPattern res h (as_found r) in
        subst (λ (rs : List FoundMatch). All P (take count rs)) (sym laid)
        (subst (λ (n : ℕ). All P (take n (overlaid fs old))) (sym counted) (all_laid P fs old (named res read)));
  }

  pub none_first : old ≡ overlaid [] old → AreFirstOfAll config texts h 0 old old
  none_first laid = first_by [] 0 old refl laid (λ res read. All-nil (λ r. IsOfFirstPattern res h (as_found r)))
      (λ res read. (map span_of_match (all_found config.utf8 (alt_all res) h), refl))

  -- the row of the last one is written before the search that fails
  pub listing_fails_behind : (left count : ℕ) (rows now : List FoundMatch) (o : Option FoundMatch) (f : FoundMatch) →
      0 < left → o ≡ Some f → now ≡ slice_set rows count f →
      IsListedSoFar config texts h left count old rows o → AreFirstOfAll config texts h (count + 1) old now
  listing_fails_behind left count rows now o f some_left some put it =
      first_by (it.taken ++ f ∷ []) (count + 1) now (one_more_counted it.taken f count it.counted)
      (one_more_row it.taken f count old rows now it.counted it.laid put)
      (λ res read.
      let P : FoundMatch → Type 0 = λ r. IsOfFirstPattern res h (as_found r) in
      All-append P it.taken (f ∷ []) (it.named res read)
      (All-cons P f [] (subst (λ (p : Option FoundMatch). IfSome p P) some (it.next_named res read)) (All-nil P)))
      (λ res read.
      let s = found_from config.utf8 (alt_all res) h in
      let r = it.rest res read in
      let more = map span_of_match (matches_from s (left - 1) (find_after s f.end)) in (
        more,
        r.2
            ∙ ap (λ (xs : List (ℕ × ℕ)). map span_of_row it.taken ++ xs)
            (step_by s left (left - 1) r.0 f (omega (arith, some_left)) (r.1 ∙ ap (option_map span_of_row) some))
            ∙ sym (append_assoc (map span_of_row it.taken) (span_of_row f ∷ []) more)
            ∙ ap (λ (xs : List (ℕ × ℕ)). xs ++ more) (sym (map_more span_of_row it.taken f)),
      ))
