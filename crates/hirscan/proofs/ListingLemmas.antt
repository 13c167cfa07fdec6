-- What a loop over the matches of a regex has listed: by its steps, and at its end.
use Rattle.std.proofs.Common.{◌≡◌, ℕ, List, [], ◌∷◌, ◌++◌, Some, Ok, refl, sym, ap, ◌∙◌, subst}
use Rattle.std.proofs.Common.{append-nil}
use Rattle.std.specs.Borrow.{GName}
use Rattle.std.proofs.lemmas.List.Concat.{flat_map-append}
use Rattle.search_types.specs.Found.{Found}
use Rattle.search_types.specs.Inputs.{Search}
use Rattle.regex_pair.specs.declared.find_matches.FindMatches.{FindMatches}
use Rattle.regex_pair.specs.Finding.{Finding, Finds, finds_next, finds_none, fails, is_over, behind, finding_all}
use Rattle.regex_pair.specs.FindSteps.{FindsNext, MayGoOn, caches_of, finds_from, borrow_name_of, searches_by}
use Rattle.regex_pair.specs.Pairs.{Pair, PairCache}
use Rattle.regex_pair.specs.Taken.{AreTaken}
use Rattle.regex_pair.proofs.ForCallers.{none_taken, one_more_by_step}
use Rattle.regex_pair.proofs.ForCallers.{same_match, match_is_no_end, match_is_no_refusal}
use Rattle.hirscan.specs.Listing.{ListsUpTo}
use Rattle.hirscan.specs.Reply.{finding_from, last_end, span_line, span_lines}

-- ---- steps that give a match
stands_behind : (p : Pair) (at new : Finding) (before after : PairCache) (f : Found) → Finds p at new before after (Some (Ok f)) →
    new ≡ behind at f
stands_behind p at new before after f (finds_next g begun next item there) = there ∙ ap (behind at) (sym (same_match f g item))
stands_behind p at new before after f (finds_none begun next item over) = absurd (match_is_no_end (Ok f) item)
stands_behind p at new before after f (fails k e begun asked refused item over) = absurd (match_is_no_refusal f e item)
stands_behind p at new before after f (is_over over item there same) = absurd (match_is_no_end (Ok f) item)

last_end_more : (fs : List Found) (f : Found) → last_end (fs ++ f ∷ []) ≡ Some f.end
last_end_more [] f = refl
last_end_more (g ∷ []) f = refl
last_end_more (g ∷ k ∷ fs) f = last_end_more (k ∷ fs) f

more_lines : (fs : List Found) (f : Found) → span_lines (fs ++ f ∷ []) ≡ span_lines fs ++ span_line f
more_lines fs f = flat_map-append span_line fs (f ∷ []) ∙ ap (λ t. span_lines fs ++ t) (append-nil (span_line f))

listed_none : (p : Pair) (q : Search) (it : FindMatches) → searches_by it ≡ p → finds_from it ≡ finding_all q → MayGoOn it →
    ListsUpTo p q (borrow_name_of it) [] it
listed_none p q it regex from goes_on = record {
  found = [];
  text_is = refl;
  taken = subst (AreTaken p q []) (sym from) (none_taken p q);
  stands = from;
  same_regex = regex;
  same_reference = refl;
  goes_on = goes_on;
}

-- before the first step nothing is listed
pub begins_list : (p : Pair) (asked q : Search) (text : List ℕ) (made it : FindMatches) → text ≡ [] → it ≡ made → asked ≡ q →
    searches_by made ≡ p →
    finds_from made ≡ finding_all asked → MayGoOn made → ListsUpTo p q (borrow_name_of it) text it
begins_list p asked q text made it none same is regex from goes_on =
    subst (λ (t : List ℕ). ListsUpTo p q (borrow_name_of it) t it) (sym none)
    (subst (λ (x : FindMatches). ListsUpTo p q (borrow_name_of x) [] x) (sym same)
    (listed_none p q made regex (from ∙ ap finding_all is) goes_on))

module _ (p : Pair) (q : Search) (lender : GName) where
  -- the line of one more match is written
  pub lists_more : (text more : List ℕ) (old new : FindMatches) (f : Found) → ListsUpTo p q lender text old →
      FindsNext old (Some (Ok f)) new →
      more ≡ text ++ span_line f → ListsUpTo p q lender more new
  lists_more text more old new f listed step line = record {
    found = listed.found ++ f ∷ [];
    text_is = line ∙ ap (λ t. t ++ span_line f) listed.text_is ∙ sym (more_lines listed.found f);
    taken = one_more_by_step p q listed.found old new f listed.same_regex listed.taken step;
    stands =
        stands_behind (searches_by old) (finds_from old) (finds_from new) (caches_of old) (caches_of new) f step.finds
        ∙ ap (λ at. behind at f) listed.stands ∙ ap (finding_from q) (sym (last_end_more listed.found f));
    same_regex = step.same_regex ∙ listed.same_regex;
    same_reference = step.same_reference ∙ listed.same_reference;
    goes_on = step.goes_on;
  }
