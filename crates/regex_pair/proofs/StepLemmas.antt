-- One step of an iterator: what it gives, by what its searches answer, and that it may go on.
use Rattle.std.proofs.Common.{◌≡◌, ◌<◌, true, false, Option, Some, None, Result, Ok, Err, refl, sym, ap, ◌∙◌, subst, arith}
use Rattle.std.specs.Iterator.{MakesProgress, at_most}
use Rattle.std.specs.Result.{result_transpose}
use Rattle.search_types.specs.declared.match_error.MatchErrorKind.{MatchErrorKind}
use Rattle.search_types.specs.Found.{Found}
use Rattle.search_types.specs.Inputs.{Search}
use Rattle.regex_pair.specs.declared.find_matches.FindMatches.{FindMatches}
use Rattle.regex_pair.specs.Finding.{Finding, IsNextFound, IsNextAnswer, IsPositioned, KeepsTwice, finds_next, finds_none, fails, is_over}
use Rattle.regex_pair.specs.Finding.{behind, most_left}
use Rattle.regex_pair.specs.FindSteps.{searches_by, search_of, finds_from, caches_of, borrow_name_of, items_left, MayGoOn, FindsNext}
use Rattle.regex_pair.specs.Pairs.{Pair, AreCachesOf}
use Rattle.regex_pair.specs.StepSearches.{SearchesNext}
use Rattle.regex_pair.proofs.NextLemmas.{next_falls, next_is, refused_is, behind_placed, kept_untouched, match_is_no_end, refusal_is_no_end}
use Rattle.regex_pair.proofs.AnswerLemmas.{Whole}

pub found_is : (result : Whole) (o : Option Found) (f : Found) → result ≡ Ok o → o ≡ Some f → result ≡ Ok (Some f)
found_is result o f ok some = ok ∙ ap (λ (u : Option Found). Ok u) some

pub finds_nothing_more : (it : FindMatches) → MayGoOn it → it.is_over ≡ true → FindsNext it None it
finds_nothing_more it ready over = record {
  same_regex = refl;
  same_reference = refl;
  finds = is_over over refl refl refl;
  kept = kept_untouched (searches_by it) (caches_of it);
  searches = λ begun. let never : true ≡ false = sym over ∙ begun in absurd (grind (arith, never));
  done = λ past. (refl, refl);
  goes_on = ready;
}

module _ (old new : FindMatches) (ready : MayGoOn old) (begun : old.is_over ≡ false) (own : AreCachesOf (searches_by old) (caches_of new))
    (same_regex : searches_by new ≡ searches_by old) (same_reference : borrow_name_of new ≡ borrow_name_of old)
    (kept : KeepsTwice (searches_by old) (caches_of old) (caches_of new)) (q : Search) (asked : q ≡ search_of old) (result : Whole)
    (answered : IsNextAnswer (searches_by old) (record { search = q; last = old.last; is_over = false }) (caches_of new) result)
    (searched : SearchesNext (searches_by old) (record { search = q; last = old.last; is_over = false }) (caches_of old)
    (caches_of new) result)
    (done : q.end < q.start → (result ≡ Ok None) × (caches_of new ≡ caches_of old)) where
  owned : AreCachesOf (searches_by new) (caches_of new)
  owned = subst (λ (p : Pair). AreCachesOf p (caches_of new)) (sym same_regex) own

  -- what was asked is where the iterator is
  asked_here : record { search = q; last = old.last; is_over = false } ≡ finds_from old
  asked_here = λ i. record { search = asked i; last = old.last; is_over = sym begun i }

  searched_here : SearchesNext (searches_by old) (finds_from old) (caches_of old) (caches_of new) result
  searched_here = subst (λ (at : Finding). SearchesNext (searches_by old) at (caches_of old) (caches_of new) result) asked_here searched

  done_here : old.end < old.start → (result ≡ Ok None) × (caches_of new ≡ caches_of old)
  done_here = subst (λ (s : Search). s.end < s.start → (result ≡ Ok None) × (caches_of new ≡ caches_of old)) asked done

  module _ (f : Found) (is : result ≡ Ok (Some f)) (there : finds_from new ≡ behind (finds_from old) f) where
    next : IsNextFound (searches_by old) (finds_from old) (Some f)
    next = next_is (searches_by old) (finds_from old) q (caches_of new) (Some f) f asked refl
        (subst (λ (r : Whole). IsNextAnswer (searches_by old) (record { search = q; last = old.last; is_over = false }) (caches_of new) r)
        is answered)

    pub finds_match : FindsNext old (Some (Ok f)) new
    finds_match = record {
      same_regex = same_regex;
      same_reference = same_reference;
      finds = finds_next f begun next refl there;
      kept = kept;
      searches = λ b. (result, sym (ap result_transpose is), searched_here);
      done = λ past. match_is_no_end f _ (sym is ∙ (done_here past).0);
      goes_on = record {
        own = owned;
        placed = subst IsPositioned (sym there) (behind_placed (searches_by old) (finds_from old) f begun ready.placed next);
      };
    }

    fewer_left : items_left new < items_left old
    fewer_left = subst (λ (at : Finding). most_left at < items_left old) (sym there)
        (next_falls (searches_by old) (finds_from old) f begun ready.placed next).later

    pub progress_of_match : MakesProgress {A = Result Found MatchErrorKind} MayGoOn (λ it. at_most (items_left it)) old (Some (Ok f)) new
    progress_of_match = record {
      on = λ finite. (finds_match.goes_on, finite, fewer_left);
      keeps = finds_match.goes_on;
      rests = λ finite. tt;
    }

  pub finds_end : (o : Option Found) → result ≡ Ok o → o ≡ None → new.is_over ≡ true → IsPositioned (finds_from new) →
      FindsNext old None new
  finds_end o ok none over placed = let is : result ≡ Ok None = ok ∙ ap (λ (u : Option Found). Ok u) none in record {
    same_regex = same_regex;
    same_reference = same_reference;
    finds = finds_none begun (subst (λ (at : Finding). IsNextFound (searches_by old) at None) asked_here
        (subst (λ (r : Whole). IsNextAnswer (searches_by old) (record { search = q; last = old.last; is_over = false }) (caches_of new) r)
        is answered)) refl over;
    kept = kept;
    searches = λ b. (result, sym (ap result_transpose is), searched_here);
    done = λ past. (refl, (done_here past).1);
    goes_on = record { own = owned; placed = placed };
  }

  pub finds_refusal : (e : MatchErrorKind) → result ≡ Err e → new.is_over ≡ true → IsPositioned (finds_from new) →
      FindsNext old (Some (Err e)) new
  finds_refusal e is over placed =
      let refused = refused_is (searches_by old) (finds_from old) q (caches_of new) e asked
      (subst (λ (r : Whole). IsNextAnswer (searches_by old) (record { search = q; last = old.last; is_over = false }) (caches_of new) r)
      is answered) in record {
        same_regex = same_regex;
        same_reference = same_reference;
        finds = fails refused.0 e begun refused.1 refused.2 refl over;
        kept = kept;
        searches = λ b. (result, sym (ap result_transpose is), searched_here);
        done = λ past. refusal_is_no_end e _ (sym is ∙ (done_here past).0);
        goes_on = record { own = owned; placed = placed };
      }
