-- Matches that are taken one after the other are a chain of answers, and all of them if the iterator comes to its end: by steps, as a loop
-- keeps it. Nothing is taken at first, one more is by a step that gives one, and all are if a step gives nothing.
use Rattle.std.proofs.Common.{◌≡◌, ℕ, ◌+◌, ◌≤◌, Bool, true, false, List, [], ◌∷◌, ◌++◌, Option, Some, None, Result, Ok, Err, refl, sym, ap}
use Rattle.std.proofs.Common.{◌∙◌, subst, arith, append-nil, append_assoc, inl, inr}
use Rattle.search_types.specs.declared.match_error.MatchErrorKind.{MatchErrorKind}
use Rattle.search_types.specs.AllAnswers.{all_answers, is_repeat}
use Rattle.search_types.specs.Chains.{IsTaken, IsNextTaken, IsTakenList, IsWholeTakenList}
use Rattle.search_types.specs.Found.{Found}
use Rattle.search_types.specs.Inputs.{Search}
use Rattle.regex_pair.specs.declared.find_matches.FindMatches.{FindMatches}
use Rattle.regex_pair.specs.Finding.{Finding, AnswersAt, IsNextFound, Finds, finds_next, finds_none, fails, is_over, finding_all, behind}
use Rattle.regex_pair.specs.Finding.{IsAskedAt, search_at}
use Rattle.regex_pair.specs.FindSteps.{FindsNext, searches_by, finds_from, caches_of}
use Rattle.regex_pair.specs.PairAnswers.{AnswersPair}
use Rattle.regex_pair.specs.PairLaws.{answer_at}
use Rattle.regex_pair.specs.Pairs.{Pair, PairCache}
use Rattle.regex_pair.specs.Taken.{AreTaken}
use Rattle.regex_pair.proofs.JoinedLemmas.{chain_begins, chain_is_whole, match_lies}

pub none_taken : (p : Pair) (q : Search) → AreTaken p q [] (finding_all q)
none_taken p q = record { begun = refl; here = refl; from = omega arith; chain = λ rest c. c; whole = λ rest c. c }

-- what comes next is the next answer to the search as it was asked
next_of_search : (p : Pair) (q : Search) (at : Finding) (o : Option Found) → at.search ≡ search_at q at.search.start → IsNextFound p at o →
    IsNextTaken (AnswersAt p q) at.last at.search.start o
next_of_search p q at o here next = subst (λ (s : Search). IsNextTaken (AnswersAt p s) at.last at.search.start o) here next

-- and it ends at or after the offset where the search is
taken_is_behind : (p : Pair) (q : Search) (k : ℕ) (o : Option Found) (b : Bool) (f : Found) → AnswersAt p q k o →
    IsTaken (AnswersAt p q) k o b (Some f) → k ≤ f.end
taken_is_behind p q k o false f first taken =
    let lies = match_lies p (search_at q k) f (first ∙ ap Ok (sym taken)) in let low = lies.0 in let high = lies.1 in
    omega (arith, low, high)
taken_is_behind p q k o true f first taken =
    let lies = match_lies p (search_at q (k + 1)) f taken in let low = lies.0 in let high = lies.1 in omega (arith, low, high)

next_is_behind : (p : Pair) (q : Search) (last : Option ℕ) (k : ℕ) (f : Found) → IsNextTaken (AnswersAt p q) last k (Some f) → k ≤ f.end
next_is_behind p q last k f next = taken_is_behind p q k next.0 (is_repeat last next.0) f next.1 next.2

one_behind : (p : Pair) (q : Search) (fs : List Found) (at : Finding) (f : Found) → AreTaken p q fs at → IsNextFound p at (Some f) →
    AreTaken p q (fs ++ f ∷ []) (behind at f)
one_behind p q fs at f taken next =
    let first = next_of_search p q at (Some f) taken.here next in
    let behind_it = next_is_behind p q at.last at.search.start f first in
    let so_far = taken.from in record {
      begun = refl;
      here = ap (λ (s : Search). search_at s f.end) taken.here;
      from = omega (arith, behind_it, so_far);
      chain = λ rest c. subst (λ (gs : List Found). IsTakenList (AnswersAt p q) None q.start gs) (sym (append_assoc fs (f ∷ []) rest))
          (taken.chain (f ∷ rest) (first, c));
      whole = λ rest c. subst (λ (gs : List Found). IsWholeTakenList (AnswersAt p q) None q.start gs) (sym (append_assoc fs (f ∷ []) rest))
          (taken.whole (f ∷ rest) (first, c));
    }

abbrev pub item_of : Result Found MatchErrorKind → Option (Result Found MatchErrorKind)
item_of r = Some r

abbrev answer_of : Found → Result Found MatchErrorKind
answer_of f = Ok f

abbrev refusal_of : MatchErrorKind → Result Found MatchErrorKind
refusal_of e = Err e

pub same_match : (f g : Found) → item_of (answer_of f) ≡ item_of (answer_of g) → f ≡ g
same_match f g e = cc

pub match_is_no_end : (r : Result Found MatchErrorKind) → item_of r ≡ None → ⊥
match_is_no_end r e = let never : true ≡ false = cc in grind (arith, never)

pub match_is_no_refusal : (f : Found) (x : MatchErrorKind) → item_of (answer_of f) ≡ item_of (refusal_of x) → ⊥
match_is_no_refusal f x e = let never : true ≡ false = cc in grind (arith, never)

pub one_more_taken : (p : Pair) (q : Search) (fs : List Found) (at new : Finding) (before after : PairCache) (f : Found) →
    AreTaken p q fs at →
    Finds p at new before after (Some (Ok f)) → AreTaken p q (fs ++ f ∷ []) new
one_more_taken p q fs at new before after f taken (finds_next g begun next item there) =
    subst (AreTaken p q (fs ++ f ∷ [])) (sym there)
    (subst (λ (h : Found). AreTaken p q (fs ++ h ∷ []) (behind at g)) (sym (same_match f g item)) (one_behind p q fs at g taken next))
one_more_taken p q fs at new before after f taken (finds_none begun next item over) = absurd (match_is_no_end (answer_of f) item)
one_more_taken p q fs at new before after f taken (fails k e begun asked refused item over) = absurd (match_is_no_refusal f e item)
one_more_taken p q fs at new before after f taken (is_over over item there same) = absurd (match_is_no_end (answer_of f) item)

pub all_taken : (p : Pair) (q : Search) (fs : List Found) (at new : Finding) (before after : PairCache) → AreTaken p q fs at →
    Finds p at new before after None → IsWholeTakenList (AnswersAt p q) None q.start fs
all_taken p q fs at new before after taken (finds_next g begun next item there) = absurd (match_is_no_end (answer_of g) (sym item))
all_taken p q fs at new before after taken (finds_none begun next item over) =
    subst (λ (gs : List Found). IsWholeTakenList (AnswersAt p q) None q.start gs) (append-nil fs)
    (taken.whole [] (next_of_search p q at None taken.here next))
all_taken p q fs at new before after taken (fails k e begun asked refused item over) = absurd (match_is_no_end (refusal_of e) (sym item))
all_taken p q fs at new before after taken (is_over over item there same) =
    let never : true ≡ false = sym over ∙ taken.begun in absurd (grind (arith, never))

-- whatever comes next, what was taken is a chain
pub some_taken : (p : Pair) (q : Search) (fs : List Found) (at : Finding) → AreTaken p q fs at → IsTakenList (AnswersAt p q) None q.start fs
some_taken p q fs at taken =
    subst (λ (gs : List Found). IsTakenList (AnswersAt p q) None q.start gs) (append-nil fs) (taken.chain [] tt)

-- what was taken, as a list that is equal
pub taken_so : (p : Pair) (q : Search) (fs more : List Found) (now : Finding) (f : Found) → AreTaken p q (fs ++ f ∷ []) now →
    more ≡ fs ++ f ∷ [] → AreTaken p q more now
taken_so p q fs more now f taken is = subst (λ (gs : List Found). AreTaken p q gs now) (sym is) taken

-- ---- by the steps of an iterator over this pair

pub one_more_by_step : (p : Pair) (q : Search) (fs : List Found) (old new : FindMatches) (f : Found) → searches_by old ≡ p →
    AreTaken p q fs (finds_from old) → FindsNext old (Some (Ok f)) new → AreTaken p q (fs ++ f ∷ []) (finds_from new)
one_more_by_step p q fs old new f same taken step =
    one_more_taken p q fs (finds_from old) (finds_from new) (caches_of old) (caches_of new) f taken
    (subst (λ (r : Pair). Finds r (finds_from old) (finds_from new) (caches_of old) (caches_of new) (Some (Ok f))) same step.finds)

pub all_by_step : (p : Pair) (q : Search) (fs : List Found) (old new : FindMatches) → searches_by old ≡ p →
    AreTaken p q fs (finds_from old) → FindsNext old None new → IsWholeTakenList (AnswersAt p q) None q.start fs
all_by_step p q fs old new same taken step =
    all_taken p q fs (finds_from old) (finds_from new) (caches_of old) (caches_of new) taken
    (subst (λ (r : Pair). Finds r (finds_from old) (finds_from new) (caches_of old) (caches_of new) None) same step.finds)

pub none_by_begin : (p : Pair) (q : Search) (it : FindMatches) → finds_from it ≡ finding_all q → AreTaken p q [] (finds_from it)
none_by_begin p q it from = subst (AreTaken p q []) (sym from) (none_taken p q)

-- ---- errors, and what comes after them and after the end

pub asked_behind : (p : Pair) (at : Finding) (k : ℕ) → IsAskedAt p at k → at.search.start ≤ k
asked_behind p at k (inl here) = omega (arith, here)
asked_behind p at k (inr further) = let there = further.0 in omega (arith, there)

same_refusal : (e v : MatchErrorKind) → item_of (refusal_of e) ≡ item_of (refusal_of v) → e ≡ v
same_refusal e v is = cc

-- the error of a search from k on, which isn't before the start of this one
abbrev pub RefusesBehind : Pair → Search → Finding → PairCache → MatchErrorKind → Type 0
RefusesBehind p q at after e = (k : ℕ) × IsAskedAt p at k × (q.start ≤ k) × AnswersPair p after (search_at q k) (Err e)

refused_behind : (p : Pair) (q : Search) (fs : List Found) (at new : Finding) (before after : PairCache) (e : MatchErrorKind) →
    AreTaken p q fs at → Finds p at new before after (Some (Err e)) → RefusesBehind p q at after e
refused_behind p q fs at new before after e taken (finds_next g begun next item there) = absurd (match_is_no_refusal g e (sym item))
refused_behind p q fs at new before after e taken (finds_none begun next item over) = absurd (match_is_no_end (refusal_of e) item)
refused_behind p q fs at new before after e taken (fails k v begun asked refused item over) =
    let low = asked_behind p at k asked in let from = taken.from in
    subst (RefusesBehind p q at after) (sym (same_refusal e v item)) (
      k,
      asked,
      omega (arith, low, from),
      subst (λ (s : Search). AnswersPair p after (search_at s k) (Err v)) taken.here refused,
    )
refused_behind p q fs at new before after e taken (is_over over item there same) = absurd (match_is_no_end (refusal_of e) item)

pub refused_by_step : (p : Pair) (q : Search) (fs : List Found) (old new : FindMatches) (e : MatchErrorKind) → searches_by old ≡ p →
    AreTaken p q fs (finds_from old) → FindsNext old (Some (Err e)) new → RefusesBehind p q (finds_from old) (caches_of new) e
refused_by_step p q fs old new e same taken step =
    refused_behind p q fs (finds_from old) (finds_from new) (caches_of old) (caches_of new) e taken
    (subst (λ (r : Pair). Finds r (finds_from old) (finds_from new) (caches_of old) (caches_of new) (Some (Err e))) same step.finds)

over_behind_none : (p : Pair) (at new : Finding) (before after : PairCache) → Finds p at new before after None → new.is_over ≡ true
over_behind_none p at new before after (finds_next g begun next item there) = absurd (match_is_no_end (answer_of g) (sym item))
over_behind_none p at new before after (finds_none begun next item over) = over
over_behind_none p at new before after (fails k e begun asked refused item over) = over
over_behind_none p at new before after (is_over over item there same) = ap (λ (x : Finding). x.is_over) there ∙ over

over_behind_refusal : (p : Pair) (at new : Finding) (before after : PairCache) (e : MatchErrorKind) →
    Finds p at new before after (Some (Err e)) → new.is_over ≡ true
over_behind_refusal p at new before after e (finds_next g begun next item there) = absurd (match_is_no_refusal g e (sym item))
over_behind_refusal p at new before after e (finds_none begun next item over) = over
over_behind_refusal p at new before after e (fails k v begun asked refused item over) = over
over_behind_refusal p at new before after e (is_over over item there same) = absurd (match_is_no_end (refusal_of e) item)

pub ends_by_step : (old new : FindMatches) → FindsNext old None new → (finds_from new).is_over ≡ true
ends_by_step old new step =
    over_behind_none (searches_by old) (finds_from old) (finds_from new) (caches_of old) (caches_of new) step.finds

pub fails_by_step : (old new : FindMatches) (e : MatchErrorKind) → FindsNext old (Some (Err e)) new → (finds_from new).is_over ≡ true
fails_by_step old new e step =
    over_behind_refusal (searches_by old) (finds_from old) (finds_from new) (caches_of old) (caches_of new) e step.finds

abbrev Rests : Finding → Finding → PairCache → PairCache → Option (Result Found MatchErrorKind) → Type 0
Rests at new before after item = (item ≡ None) × (new ≡ at) × (after ≡ before)

not_begun : (at : Finding) (P : Type 0) → at.is_over ≡ true → at.is_over ≡ false → P
not_begun at P over begun = let never : true ≡ false = sym over ∙ begun in absurd (grind (arith, never))

rests : (p : Pair) (at new : Finding) (before after : PairCache) (item : Option (Result Found MatchErrorKind)) → at.is_over ≡ true →
    Finds p at new before after item → Rests at new before after item
rests p at new before after item over (finds_next g begun next is there) = not_begun at (Rests at new before after item) over begun
rests p at new before after item over (finds_none begun next is behind) = not_begun at (Rests at new before after item) over begun
rests p at new before after item over (fails k e begun asked refused is behind) = not_begun at (Rests at new before after item) over begun
rests p at new before after item over (is_over here is there same) = (is, there, same)

pub rests_by_step : (old new : FindMatches) (item : Option (Result Found MatchErrorKind)) → (finds_from old).is_over ≡ true →
    FindsNext old item new → (item ≡ None) × (finds_from new ≡ finds_from old) × (caches_of new ≡ caches_of old)
rests_by_step old new item over step =
    rests (searches_by old) (finds_from old) (finds_from new) (caches_of old) (caches_of new) item over step.finds

-- ---- what was taken, as a list

pub taken_begin_the_list : (p : Pair) (q : Search) (fs : List Found) (at : Finding) → q.start ≤ q.end + 1 → AreTaken p q fs at →
    (rest : List Found) × (all_answers (answer_at p q) q.start q.end ≡ fs ++ rest)
taken_begin_the_list p q fs at fits taken = chain_begins p q fs fits (some_taken p q fs at taken)

pub taken_are_the_list : (p : Pair) (q : Search) (fs : List Found) (old new : FindMatches) → q.start ≤ q.end + 1 → searches_by old ≡ p →
    AreTaken p q fs (finds_from old) → FindsNext old None new → all_answers (answer_at p q) q.start q.end ≡ fs
taken_are_the_list p q fs old new fits same taken step = chain_is_whole p q fs fits (all_by_step p q fs old new same taken step)
