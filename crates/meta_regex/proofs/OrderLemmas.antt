-- Matches one after the other, whatever the repetitions of the patterns consume.
use Rattle.std.proofs.Common.{◌≡◌, ◌≢◌, ℕ, ◌+◌, ◌<◌, ◌≤◌, ◌==◌, Bool, true, false, List, [], ◌∷◌, ◌++◌, length, slice_set}
use Rattle.std.proofs.Common.{Option, Some, None, option_map, subst, refl, sym, ap, ◌∙◌, arith, eq-eqb, eqb-true, true≢false}
use Rattle.std.specs.Prelude.{IfSome}
use Rattle.std.proofs.lemmas.Option.{none-some, same_Some}
use Rattle.regex_hir.specs.Re.{Re}
use Rattle.regex_hir.specs.Meaning.{alt_all}
use Rattle.regex_hir.specs.Find.{Match}
use Rattle.regex_hir.specs.Text.{is_some_and}
use Rattle.regex_hir.proofs.FindLemmas.{IsFirst-of_first_between, first_between_past}
use Rattle.regex_hir.proofs.MatchesLemmas.{Matches-IsSpan}
use Rattle.regex_syntax.specs.declared.Config.{Config}
use Rattle.pattern_search.specs.Searches.{found_from}
use Rattle.pattern_search.specs.Texts.{AreReadAs}
use Rattle.pattern_search.proofs.ForCallers.{tried, found_is}
use Rattle.meta_regex.specs.declared.found_match.FoundMatch.{FoundMatch}
use Rattle.meta_regex.specs.Regexes.{HasFoundStart, overlaid}
use Rattle.meta_regex.specs.Lists.{AreFirstListed, AreInOrder, AreListed, ComesNext, IsNextMatch, IsFoundFrom, IsNextListed, end_of_last}
use Rattle.meta_regex.specs.Lists.{found_there, found_later}
use Rattle.meta_regex.proofs.ListLemmas.{one_more_row, one_more_counted}

-- ---- one search
module _ (config : Config) (texts : List (List ℕ)) (h : List ℕ) where
  pub of_start : (at : ℕ) (o : Option FoundMatch) → HasFoundStart config texts h at o → (res : List Re) → AreReadAs config texts res →
      IsFoundFrom config.utf8 res h at o
  of_start at o found res read = record { start = found.start res read; pattern = found.pattern res read }

module _ (utf8 : Bool) (res : List Re) (h : List ℕ) where
  -- after the haystack's end nothing is found
  pub nothing_beyond : (at : ℕ) → length h < at → IsFoundFrom utf8 res h at None
  nothing_beyond at above = record {
    start = ap (option_map (λ m. Match.start m))
        (found_is utf8 (alt_all res) h at ∙ first_between_past (tried utf8 h (alt_all res)) at (length h) above);
    pattern = tt;
  }

  low_start : (at : ℕ) (m : Option Match) (f : FoundMatch) → found_from utf8 (alt_all res) h at ≡ m →
      option_map (λ w. Match.start w) m ≡ Some f.start → (at ≤ f.start) × (f.start ≤ length h)
  low_start at None f is starts = absurd (none-some f.start starts)
  low_start at (Some m) f is starts =
      let first = IsFirst-of_first_between (tried utf8 h (alt_all res)) at (length h) m (sym (found_is utf8 (alt_all res) h at) ∙ is) in
      let same : m.start ≡ f.start = same_Some m.start f.start starts in
      (omega (arith, first.from, same), omega (arith, first.to, same))

  -- what is found lies in the haystack, from the offset on
  pub span_found : (at : ℕ) (f : FoundMatch) → IsFoundFrom utf8 res h at (Some f) → (at ≤ f.start) × (f.start ≤ f.end) × (f.end ≤ length h)
  span_found at f it =
      let low = low_start at (found_from utf8 (alt_all res) h at) f refl it.start in
      let m = it.pattern.matches in
      let span = Matches-IsSpan h m.pattern f.start f.end m.matches in
      (low.0, span.0, omega (arith, low.1, span.1))

-- ---- the next one
not_there : (f : FoundMatch) (end : ℕ) → (f.end == end) ≡ false → f.end ≢ end
not_there f end other is = true≢false (sym (eq-eqb f.end end is) ∙ other)

elsewhere : (o : Option FoundMatch) (end : ℕ) → is_some_and o (λ f. FoundMatch.end f == end) ≡ false → IfSome o (λ f. f.end ≢ end)
elsewhere None end is = tt
elsewhere (Some f) end is = not_there f end is

module _ (utf8 : Bool) (res : List Re) (h : List ℕ) (end : ℕ) where
  follows_there : (o : Option FoundMatch) → IsFoundFrom utf8 res h end o → is_some_and o (λ f. FoundMatch.end f == end) ≡ false →
      IsNextMatch utf8 res h end o
  follows_there o it other = found_there it (elsewhere o end other)

  follows_later : (o next : Option FoundMatch) → IsFoundFrom utf8 res h end o → is_some_and o (λ f. FoundMatch.end f == end) ≡ true →
      IsFoundFrom utf8 res h (end + 1) next → IsNextMatch utf8 res h end next
  follows_later None next it ends later = absurd (true≢false (sym ends))
  follows_later (Some f) next it ends later = found_later f (eqb-true f.end end ends) it later

module _ (config : Config) (texts : List (List ℕ)) (h : List ℕ) (end : ℕ) where
  pub listed_beyond : length h < end → IsNextListed config texts h end None
  listed_beyond above res read = found_there (nothing_beyond config.utf8 res h end above) tt

  pub listed_there : (o : Option FoundMatch) → HasFoundStart config texts h end o → is_some_and o (λ f. FoundMatch.end f == end) ≡ false →
      IsNextListed config texts h end o
  listed_there o start other res read = follows_there config.utf8 res h end o (of_start config texts h end o start res read) other

  pub listed_later : (o next : Option FoundMatch) → HasFoundStart config texts h end o →
      is_some_and o (λ f. FoundMatch.end f == end) ≡ true → HasFoundStart config texts h (end + 1) next →
      IsNextListed config texts h end next
  listed_later o next start ends later res read =
      follows_later config.utf8 res h end o next (of_start config texts h end o start res read) ends
      (of_start config texts h (end + 1) next later res read)

  pub listed_none : (o : Option FoundMatch) → HasFoundStart config texts h end o → is_some_and o (λ f. FoundMatch.end f == end) ≡ true →
      length h ≡ end → IsNextListed config texts h end None
  listed_none o start ends last res read =
      follows_later config.utf8 res h end o None (of_start config texts h end o start res read) ends
      (nothing_beyond config.utf8 res h (end + 1) (omega (arith, last)))

-- ---- all of them
module _ (utf8 : Bool) (res : List Re) (h : List ℕ) where
  -- ends rise
  reached : Option ℕ → ℕ
  reached None = 0
  reached (Some end) = end + 1

  rises : (last : Option ℕ) (f : FoundMatch) → ComesNext utf8 res h last (Some f) → (reached last ≤ f.end) × (f.end ≤ length h)
  unfolding reached
  rises None f it = (omega arith, (span_found utf8 res h 0 f it).2)
  rises (Some end) f (found_there it other) =
      let span = span_found utf8 res h end f it in
      (omega (arith, span.0, span.1, other), span.2)
  rises (Some end) f (found_later skipped ends it later) =
      let span = span_found utf8 res h (end + 1) f later in
      (omega (arith, span.0, span.1), span.2)

  reaches : (last : Option ℕ) (fs : List FoundMatch) → AreInOrder utf8 res h last fs →
      reached last + length fs ≤ reached (end_of_last last fs)
  unfolding reached
  reaches last [] it = omega arith
  reaches last (f ∷ fs) it = omega (arith, (rises last f it.0).0, reaches (Some f.end) fs it.1)

  -- if there are more of them than bytes, none follows
  none_more : (fs : List FoundMatch) → AreInOrder utf8 res h None fs → length h < length fs → (o : Option FoundMatch) →
      ComesNext utf8 res h (end_of_last None fs) o → ComesNext utf8 res h (end_of_last None fs) None
  unfolding reached
  none_more fs it many None next = next
  none_more fs it many (Some f) next =
      let high = rises (end_of_last None fs) f next in
      absurd (omega (arith, reaches None fs it, high.0, high.1))

  one_more_in_order : (last : Option ℕ) (fs : List FoundMatch) (f : FoundMatch) → AreInOrder utf8 res h last fs →
      ComesNext utf8 res h (end_of_last last fs) (Some f) → AreInOrder utf8 res h last (fs ++ f ∷ [])
  one_more_in_order last [] f it next = (next, tt)
  one_more_in_order last (g ∷ fs) f it next = (it.0, one_more_in_order (Some g.end) fs f it.1 next)

end_of_more : (last : Option ℕ) (fs : List FoundMatch) (f : FoundMatch) → end_of_last last (fs ++ f ∷ []) ≡ Some f.end
end_of_more last [] f = refl
end_of_more last (g ∷ fs) f = end_of_more (Some g.end) fs f

-- so many matches were taken and lie in the rows, and this one comes next
pub record IsInOrderSoFar (config : Config) (texts : List (List ℕ)) (h : List ℕ) (count : ℕ) (old rows : List FoundMatch)
    (next : Option FoundMatch) : Type 0 where
  pub taken : AreFirstListed config texts h count old rows
  pub next_is : (res : List Re) → AreReadAs config texts res → ComesNext config.utf8 res h (end_of_last None taken.matches) next

module _ (config : Config) (texts : List (List ℕ)) (h : List ℕ) (old : List FoundMatch) where
  -- before the first search
  pub none_listed : old ≡ overlaid [] old → AreFirstListed config texts h 0 old old
  none_listed laid = record { matches = []; count = refl; rows = laid; in_order = λ res read. tt }

  pub order_begins : (next : Option FoundMatch) → old ≡ overlaid [] old → HasFoundStart config texts h 0 next →
      IsInOrderSoFar config texts h 0 old old next
  unfolding none_listed
  order_begins next laid start = record { taken = none_listed laid; next_is = of_start config texts h 0 next start }

  -- one more was taken
  pub one_more_listed : (count : ℕ) (rows now : List FoundMatch) (o : Option FoundMatch) (f : FoundMatch) → o ≡ Some f →
      now ≡ slice_set rows count f → IsInOrderSoFar config texts h count old rows o → AreFirstListed config texts h (count + 1) old now
  one_more_listed count rows now o f some put it = record {
    matches = it.taken.matches ++ f ∷ [];
    count = one_more_counted it.taken.matches f count it.taken.count;
    rows = one_more_row it.taken.matches f count old rows now it.taken.count it.taken.rows put;
    in_order = λ res read. one_more_in_order config.utf8 res h None it.taken.matches f (it.taken.in_order res read)
        (subst (ComesNext config.utf8 res h (end_of_last None it.taken.matches)) some (it.next_is res read));
  }

  pub order_goes_on : (count : ℕ) (rows now : List FoundMatch) (o next : Option FoundMatch) (f : FoundMatch) → o ≡ Some f →
      now ≡ slice_set rows count f → IsNextListed config texts h f.end next → IsInOrderSoFar config texts h count old rows o →
      IsInOrderSoFar config texts h (count + 1) old now next
  unfolding one_more_listed
  order_goes_on count rows now o next f some put follows it = record {
    taken = one_more_listed count rows now o f some put it;
    next_is = λ res read. subst (λ (last : Option ℕ). ComesNext config.utf8 res h last next)
        (sym (end_of_more None it.taken.matches f)) (follows res read);
  }

  pub order_ends : (count : ℕ) (rows : List FoundMatch) (o : Option FoundMatch) → o ≡ None →
      IsInOrderSoFar config texts h count old rows o → AreListed config texts h count old rows
  order_ends count rows o none it = record {
    first = it.taken;
    none_left = λ res read. subst (ComesNext config.utf8 res h (end_of_last None it.taken.matches)) none (it.next_is res read);
  }

  pub order_runs_out : (count : ℕ) (rows : List FoundMatch) (o : Option FoundMatch) → length h < count →
      IsInOrderSoFar config texts h count old rows o → AreListed config texts h count old rows
  order_runs_out count rows o many it = record {
    first = it.taken;
    none_left = λ res read. none_more config.utf8 res h it.taken.matches (it.taken.in_order res read)
        (omega (arith, many, it.taken.count)) o (it.next_is res read);
  }
