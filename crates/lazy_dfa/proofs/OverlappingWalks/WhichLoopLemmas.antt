-- What an overlapping search over a whole span has done when it has reported some ends, and how it ends.
use Rattle.std.proofs.Common.{◌≡◌, ℕ, zero, suc, ◌+◌, ◌*◌, ◌<◌, ◌≤◌, ◌||◌, Bool, true, false, List, [], ◌∷◌, ◌++◌, length, drop, take}
use Rattle.std.proofs.Common.{length-append, get_or, Option, Some, None, ◌↔◌, IsTrue, refl, sym, ap, ◌∙◌, inl, inr, ⊎_elim, subst, arith}
use Rattle.std.proofs.Common.{append_assoc}
use Rattle.std.proofs.Common.{mul-le-mul_right, if◌then◌else◌, true≢false}
use Rattle.std.specs.Prelude.{Result, Ok, Err, IfErr, ⊤}
use Rattle.std.proofs.lemmas.Bool.{cases_Bool}
use Rattle.search_core.specs.ByteSets.{has}
use Rattle.search_types.specs.declared.match_error.MatchErrorKind.{MatchErrorKind}
use Rattle.search_types.specs.declared.match_error.MatchErrorKind.TheVariants.{GaveUp, NoMemory}
use Rattle.search_types.specs.Found.{HalfFound}
use Rattle.search_types.specs.Inputs.{Search}
use Rattle.nfa_core.specs.Places.{first}
use Rattle.lazy_dfa.specs.Caches.{CacheValue, IsCacheOf}
use Rattle.lazy_dfa.specs.ConfigValue.{clears_of}
use Rattle.lazy_dfa.specs.declared.overlapping.overlapping_state.OverlappingPosition.{OverlappingPosition}
use Rattle.lazy_dfa.specs.declared.overlapping.overlapping_state.OverlappingPosition.TheVariants.{Fresh, Ended, Failed, Stopped}
use Rattle.lazy_dfa.specs.Dfas.{Dfa, IsDfa, reader}
use Rattle.lazy_dfa.specs.Linked.{GrowsOrClears}
use Rattle.lazy_dfa.specs.MadeScans.{span_len}
use Rattle.lazy_dfa.specs.Readers.{Reader}
use Rattle.lazy_dfa.specs.HalfSearchLaws.{begins_at}
use Rattle.lazy_dfa.specs.SearchAnswers.{half_of}
use Rattle.lazy_dfa.specs.Steps.{most_inserts}
use Rattle.lazy_dfa.specs.Overlapping.{Rest, whole_rest, rest_of, CanContinue, OverlappingValue}
use Rattle.lazy_dfa.specs.OverlappingAnswers.{call_made, result_left, ReportsNext, AnswersOverlapping, MakesCall, with_pattern, is_full}
use Rattle.lazy_dfa.specs.OverlappingAnswers.{with_ends}
use Rattle.lazy_dfa.specs.OverlappingAnswers.{Which}
use Rattle.lazy_dfa.specs.OverlappingAnswers.{which_from, which_of, AnswersWhich, MakesWhich, which_made, HasReadQuietly}
use Rattle.lazy_dfa.specs.OverlappingAnswers.{without_id, overlapping_after, overlapping_after_calls, calls_for, IsReportedAfter}
use Rattle.lazy_dfa.specs.OverlappingAnswers.{IsWhichReported}
use Rattle.lazy_dfa.specs.OverlappingAnswers.{GivesUpOn}
use Rattle.lazy_dfa.specs.Changes.{Changes, unchanged}
use Rattle.lazy_dfa.specs.OverlappingAnswers.{IsMadeOnCall, IsMadeOnOverlapping}
use Rattle.lazy_dfa.proofs.CacheChanges.ChangesLemmas.{changes_into, changes_on}
use Rattle.lazy_dfa.proofs.OverlappingWalks.WhichChangesLemmas.{on_walk}
use Rattle.lazy_dfa.proofs.CacheChanges.LinkedLemmas.{grows_refl, grows_or_clears_trans}
use Rattle.lazy_dfa.proofs.Courses.SearchClauseLemmas.{never_here}
use Rattle.lazy_dfa.proofs.OverlappingWalks.WhichToldLemmas.{same_behind, same_give_up, told_next, left_next, none_told}
use Rattle.lazy_dfa.proofs.OverlappingWalks.WhichBudgetLemmas.{left_to_make, IsWithinWalk, IsOn, some_told, few_made, spends, gives_up}

-- ---- sets

pub full_by_members : (set : List Bool) → ((p : ℕ) → p < length set → get_or set p false ≡ true) → is_full set ≡ true
full_by_members [] all = refl
full_by_members (false ∷ set) all = let never = all 0 (omega arith) in absurd (true≢false (sym never))
full_by_members (true ∷ set) all = full_by_members set (λ p less. all (suc p) (omega (arith, less)))

pub members_of_full : (set : List Bool) → is_full set ≡ true → (p : ℕ) → p < length set → get_or set p false ≡ true
members_of_full [] full p less = absurd (omega (arith, less))
members_of_full (false ∷ set) full p less = absurd (true≢false (sym full))
members_of_full (true ∷ set) full zero less = refl
members_of_full (true ∷ set) full (suc p) less = members_of_full set full p (omega (arith, less))

-- what `is_full` of a set says
pub told_full : (b : Bool) (set : List Bool) → (IsTrue b ↔ ((p : ℕ) → p < length set → has set p ≡ true)) → b ≡ is_full set
told_full true set reported = sym (full_by_members set (reported.0 refl))
told_full false set reported = ⊎_elim
    (λ (full : is_full set ≡ true). absurd (true≢false (sym (reported.1 (members_of_full set full)))))
    (λ (not_full : is_full set ≡ false). sym not_full)
    (cases_Bool (is_full set))

with_more : (set : List Bool) (done : List (ℕ × ℕ)) (x : ℕ × ℕ) → with_ends set (done ++ x ∷ []) ≡ with_pattern (with_ends set done) x.1
with_more set [] x = refl
with_more set (y ∷ done) x = with_more (with_pattern set y.1) done x

take_front : (front back : List (ℕ × ℕ)) → take (length front) (front ++ back) ≡ front
take_front [] back = refl
take_front (x ∷ front) back = ap (λ (l : List (ℕ × ℕ)). x ∷ l) (take_front front back)

-- ---- results of a call

abbrev Answer : Type 0
Answer = Result ⊤ MatchErrorKind

abbrev done_well : Answer
done_well = Ok tt

abbrev failure : MatchErrorKind → Answer
failure e = Err e

ok_is_no_failure : (e : MatchErrorKind) → done_well ≡ failure e → ⊥
ok_is_no_failure e is = let never : true ≡ false = cc in absurd (grind (arith, never))

one_failure : (a b : MatchErrorKind) → failure a ≡ failure b → a ≡ b
one_failure a b is = cc

told_failure : (ends : List (ℕ × ℕ)) (rejection : Option MatchErrorKind) (e : MatchErrorKind) → failure e ≡ result_left ends rejection →
    (ends ≡ []) × (rejection ≡ Some e)
told_failure [] None e is = absurd (ok_is_no_failure e (sym is))
told_failure [] (Some k) e is = (refl, ap Some (sym (one_failure e k is)))
told_failure (x ∷ ends) rejection e is = absurd (ok_is_no_failure e (sym is))

told_well : (ends : List (ℕ × ℕ)) (rejection : Option MatchErrorKind) → ends ≡ [] → done_well ≡ result_left ends rejection →
    rejection ≡ None
told_well [] None none is = refl
told_well [] (Some k) none is = absurd (ok_is_no_failure k is)
told_well (x ∷ ends) rejection none is = absurd (let e = ap length none in omega (arith, e))

abbrev end_of_half : HalfFound → ℕ × ℕ
end_of_half half = (half.offset, half.pattern)

none_found : (ends : List (ℕ × ℕ)) → None ≡ half_of (first ends) → ends ≡ []
none_found [] is = refl
none_found (x ∷ ends) is = let never : true ≡ false = cc in absurd (grind (arith, never))

some_found : (ends : List (ℕ × ℕ)) (half : HalfFound) → Some half ≡ half_of (first ends) → ends ≡ end_of_half half ∷ drop 1 ends
some_found [] half is = let never : true ≡ false = cc in absurd (grind (arith, never))
some_found (x ∷ ends) half is =
    let same : half ≡ record { pattern = x.1; offset = x.0 } = cc in
    ap (λ (m : HalfFound). end_of_half m ∷ ends) (sym same)

within_walk : (d : Dfa) (v : CacheValue) (q : Search) (w : OverlappingPosition) → CanContinue d v q w → IsWithinWalk q w
within_walk d v q Fresh walk = tt
within_walk d v q Ended walk = tt
within_walk d v q (Failed e) walk = tt
within_walk d v q (Stopped stop) walk = walk.within

-- ---- counts

spent : (m1 m2 m3 made left now all : ℕ) → m2 + now ≤ m1 + all → m3 ≤ m2 + made → made + left ≤ now → m3 + left ≤ m1 + all
spent m1 m2 m3 made left now all before call le = omega (arith, before, call, le)

spent_on : (n1 n2 n3 made left now all k : ℕ) → n2 + now * k ≤ n1 + all * k → n3 ≤ n2 + made * k → made + left ≤ now →
    n3 + left * k ≤ n1 + all * k
spent_on n1 n2 n3 made left now all k before call le =
    let more : (made + left) * k ≤ now * k = mul-le-mul_right k le in omega (arith, before, call, more)

-- ---- what was done

-- The ends that were reported, whose patterns are in the set, and the rest of the search, which has the result of the whole search.
pub record HasCome (d : Dfa) (q : Search) (old now : CacheValue) (m1 m2 n1 n2 : ℕ) (set so_far : List Bool) (w : OverlappingPosition) :
    Type 0 where
  pub done : List (ℕ × ℕ)
  pub ends : (whole_rest (reader d) q).ends ≡ done ++ (rest_of (reader d) q w).ends
  pub on : IsOn (reader d) q w
  pub added : so_far ≡ with_ends set done
  pub which : which_from q.earliest so_far (rest_of (reader d) q w).ends (rest_of (reader d) q w).rejection ≡ which_of (reader d) q set
  pub kept : GrowsOrClears d old now
  pub determinized : m2 + left_to_make (reader d) q w ≤ m1 + which_made (reader d) q
  pub inserted : n2 + left_to_make (reader d) q w * most_inserts d ≤ n1 + which_made (reader d) q * most_inserts d
  pub quits : HasReadQuietly d q w
  pub behind : without_id w ≡ overlapping_after_calls (reader d) q (length done)
  pub reported : IsReportedAfter (reader d) q (length done) old now
  pub calls : length done + calls_for q.earliest so_far (rest_of (reader d) q w).ends ≡
      calls_for q.earliest set (whole_rest (reader d) q).ends
  pub made : ℕ
  pub few : made + left_to_make (reader d) q w ≤ which_made (reader d) q
  pub changes : Changes d (IsMadeOnOverlapping d q) old now made

pub begins : (d : Dfa) (q : Search) (v : CacheValue) (m n : ℕ) (set : List Bool) (s : OverlappingValue) →
    s ≡ record { found = None; walk = Fresh } →
    HasCome d q v v m m n n set set s.walk
begins d q v m n set s is = subst (λ (w : OverlappingPosition). HasCome d q v v m m n n set set w) (sym (ap (λ (x : OverlappingValue).
    x.walk) is)) (record {
      done = [];
      ends = refl;
      on = inl refl;
      added = refl;
      which = refl;
      kept = inl (grows_refl d v);
      determinized = omega arith;
      inserted = omega arith;
      quits = tt;
      behind = refl;
      reported = none_told (reader d) q v;
      calls = none_more (calls_for q.earliest set (whole_rest (reader d) q).ends);
      made = 0;
      few = omega arith;
      changes = unchanged v 0 refl;
    })
  where
    none_more : (k : ℕ) → 0 + k ≡ k
    none_more k = omega arith

pub begins_well : (d : Dfa) (q : Search) (v : CacheValue) (s : OverlappingValue) → s ≡ record { found = None; walk = Fresh } →
    CanContinue d v q s.walk
begins_well d q v s is = subst (CanContinue d v q) (sym (ap (λ (x : OverlappingValue). x.walk) is)) tt

module _ (d : Dfa) (q : Search) (old now next : CacheValue) (m1 m2 m3 n1 n2 n3 : ℕ) (set so_far : List Bool) (w : OverlappingPosition)
    (after : OverlappingValue)
    (fit : IsDfa d) (own : IsCacheOf d old) (stands : HasCome d q old now m1 m2 n1 n2 set so_far w) (walk : CanContinue d now q w) where
  abbrev r : Reader
  r = reader d

  abbrev rest : Rest
  rest = rest_of r q w

  abbrev Call : Answer → Type 0
  Call result = MakesCall d q now next m2 m3 n2 n3 w after result

  within : IsWithinWalk q w
  within = within_walk d now q w walk

  few : call_made r q w + 0 ≤ left_to_make r q w
  few = let le = few_made r q w within in omega (arith, le)

  call_changes : (result : Answer) → Call result → Changes d (IsMadeOnOverlapping d q) now next (call_made r q w)
  call_changes result call =
      changes_into d (IsMadeOnCall d q w) (IsMadeOnOverlapping d q) (on_walk d q w within) now next (call_made r q w) call.changes

  -- the overlapping search is over with this call
  over : (result : Answer) (new : List Bool) → Call result → AnswersWhich d next q set new result →
      IsWhichReported d q set new result old next → MakesWhich d q old next m1 m3 n1 n3 set new result
  over result new call answer reported = record {
    answer = answer;
    kept = grows_or_clears_trans d old now next fit own stands.kept call.kept;
    determinized = let le = spent m1 m2 m3 (call_made r q w) 0 (left_to_make r q w) (which_made r q) stands.determinized call.determinized
        few in omega (arith, le);
    inserted = let le = spent_on n1 n2 n3 (call_made r q w) 0 (left_to_make r q w) (which_made r q) (most_inserts d) stands.inserted
        call.inserted few in omega (arith, le);
    changes = let small = stands.few in let this = few in
        changes_on d (IsMadeOnOverlapping d q) old now stands.made stands.changes next (call_made r q w) (which_made r q)
        (omega (arith, small, this)) (call_changes result call);
    reported = reported;
  }

  abbrev come : ℕ
  come = length stands.done

  abbrev needed : ℕ
  needed = calls_for q.earliest set (whole_rest r q).ends

  told_on : Call done_well → IsReportedAfter r q (suc come) old next
  told_on call = told_next d q old now next w come call.kept stands.behind stands.reported call.anew

  -- if one more call is made
  last_told : (new : List Bool) → Call done_well → come + 1 ≡ needed → IsWhichReported d q set new done_well old next
  last_told new call last =
      subst (λ (k : ℕ). IsReportedAfter r q k old next) (let e = last in one_more come needed e) (told_on call)
    where
      one_more : (k n : ℕ) → k + 1 ≡ n → suc k ≡ n
      one_more k n e = omega (arith, e)

  within_ends : come ≤ length (whole_rest r q).ends
  within_ends =
      let sum : length (whole_rest r q).ends ≡ come + length rest.ends = ap length stands.ends ∙ length-append stands.done rest.ends in
      omega (arith, sum)

  reports : Call done_well → ReportsNext r q w after done_well
  reports call = by_answer call.answer
    where
      by_answer : AnswersOverlapping d next q w after done_well → ReportsNext r q w after done_well
      by_answer (inl t) = t
      by_answer (inr (inl e)) = absurd (ok_is_no_failure NoMemory e)
      by_answer (inr (inr g)) = absurd (ok_is_no_failure (GaveUp g.0) g.1)

  -- ---- no end is left

  nothing_told : (rejection : Option MatchErrorKind) → rest.ends ≡ [] → rest.rejection ≡ rejection →
      record { set = so_far; rejection = rejection } ≡ which_of r q set
  nothing_told rejection none is =
      ap (which_from q.earliest so_far []) (sym is)
      ∙ ap (λ (ends : List (ℕ × ℕ)). which_from q.earliest so_far ends rest.rejection) (sym none)
      ∙ stands.which

  so_far_is : so_far ≡ with_ends set (take (length stands.done) (whole_rest r q).ends)
  so_far_is = stands.added ∙ ap (with_ends set) (sym (ap (take (length stands.done)) stands.ends ∙ take_front stands.done rest.ends))

  refused_with : (e : MatchErrorKind) → AnswersOverlapping d next q w after (failure e) → AnswersWhich d next q set so_far (failure e)
  refused_with e (inl t) =
      let reported = told_failure rest.ends rest.rejection e t.answer in
      let is = nothing_told (Some e) reported.0 reported.1 in
      inl (ap (λ (x : Which). result_left [] x.rejection) is, ap (λ (x : Which). x.set) is)
  refused_with e (inr (inl lacks)) = inr (come, within_ends, so_far_is, inl lacks)
  refused_with e (inr (inr g)) = inr (
    come,
    within_ends,
    so_far_is,
    inr (
      g.0,
      g.1,
      subst (λ (x : OverlappingPosition). GivesUpOn d next q x g.0) stands.behind (same_give_up d next q g.0 w g.2),
      gives_up d next q g.0 w stands.on within stands.quits g.2,
    ),
  )

  pub fails : (e : MatchErrorKind) → Call (failure e) → MakesWhich d q old next m1 m3 n1 n3 set so_far (failure e)
  fails e call = over (failure e) so_far call (refused_with e call.answer) (
    come,
    within_ends,
    so_far_is,
    left_next d q old now next w come call.kept stands.behind stands.reported e call.anew,
  )

  pub none_left : after.found ≡ None → Call done_well → MakesWhich d q old next m1 m3 n1 n3 set so_far done_well
  none_left none call =
      let t = reports call in
      let gone = none_found rest.ends (sym none ∙ t.found) in
      let is = nothing_told None gone (told_well rest.ends rest.rejection gone t.answer) in
      over done_well so_far call (inl (ap (λ (x : Which). result_left [] x.rejection) is, ap (λ (x : Which). x.set) is))
      (last_told so_far call (ap (λ (ends : List (ℕ × ℕ)). come + calls_for q.earliest so_far ends) (sym gone) ∙ stands.calls))

  -- ---- an end is reported

  module _ (half : HalfFound) (some : after.found ≡ Some half) (call : Call done_well) (more : List Bool)
      (more_is : more ≡ with_pattern so_far half.pattern) where
    abbrev left : List (ℕ × ℕ)
    left = drop 1 rest.ends

    told_is : rest.ends ≡ end_of_half half ∷ left
    told_is = some_found rest.ends half (sym some ∙ (reports call).found)

    left_is : rest_of r q after.walk ≡ record { ends = left; rejection = rest.rejection }
    left_is = (reports call).left

    all_is : (whole_rest r q).ends ≡ stands.done ++ end_of_half half ∷ left
    all_is = stands.ends ∙ ap (λ (l : List (ℕ × ℕ)). stands.done ++ l) told_is

    step_is : (if q.earliest || is_full more then record { set = more; rejection = None } else which_from q.earliest more left
        rest.rejection) ≡ which_of r q set
    step_is =
        ap (λ (s : List Bool). if q.earliest || is_full s then record { set = s; rejection = None } else which_from q.earliest s left
        rest.rejection) more_is
        ∙ ap (λ (l : List (ℕ × ℕ)). which_from q.earliest so_far l rest.rejection) (sym told_is)
        ∙ stands.which

    -- the calls that are still to be made, including this one
    abbrev calls_then : ℕ
    calls_then = suc (calls_for q.earliest more left)

    calls_there : calls_for q.earliest so_far rest.ends ≡ (if q.earliest || is_full more then 1 else calls_then)
    calls_there =
        ap (calls_for q.earliest so_far) told_is
        ∙ sym (ap (λ (s : List Bool). if q.earliest || is_full s then 1 else suc (calls_for q.earliest s left)) more_is)

    pub stops : (q.earliest || is_full more) ≡ true → MakesWhich d q old next m1 m3 n1 n3 set more done_well
    stops enough =
        let is : record { set = more; rejection = None } ≡ which_of r q set =
        sym (ap (λ (b : Bool). if b then record { set = more; rejection = None } else which_from q.earliest more left rest.rejection)
        enough)
        ∙ step_is in
        over done_well more call (inl (ap (λ (x : Which). result_left [] x.rejection) is, ap (λ (x : Which). x.set) is))
        (last_told more call (ap (λ (k : ℕ). come + k) (sym (calls_there ∙ ap (λ (b : Bool). if b then 1 else calls_then) enough))
        ∙ stands.calls))

    one_longer : length (stands.done ++ end_of_half half ∷ []) ≡ suc come
    one_longer = let sum = length-append stands.done (end_of_half half ∷ []) in omega (arith, sum)

    few_then : call_made r q w + left_to_make r q after.walk ≤ left_to_make r q w
    few_then = spends r q stands.done left (end_of_half half) all_is w after.walk within (within_walk d next q after.walk call.walk)
        (ap first told_is) (ap (λ (x : Rest). x.ends) left_is)

    pub goes_on : (q.earliest || is_full more) ≡ false → HasCome d q old next m1 m3 n1 n3 set more after.walk
    goes_on on = record {
      done = stands.done ++ end_of_half half ∷ [];
      ends = all_is ∙ sym (append_assoc stands.done (end_of_half half ∷ []) left)
          ∙ ap (λ (x : Rest). (stands.done ++ end_of_half half ∷ []) ++ x.ends) (sym left_is);
      on = inr (some_told (whole_rest r q).ends stands.done left (end_of_half half) all_is);
      added = more_is ∙ ap (λ (s : List Bool). with_pattern s half.pattern) stands.added
          ∙ sym (with_more set stands.done (end_of_half half));
      which = ap (λ (x : Rest). which_from q.earliest more x.ends x.rejection) left_is
          ∙ sym (ap (λ (b : Bool). if b then record { set = more; rejection = None } else which_from q.earliest more left rest.rejection)
          on)
          ∙ step_is;
      kept = grows_or_clears_trans d old now next fit own stands.kept call.kept;
      determinized = spent m1 m2 m3 (call_made r q w) (left_to_make r q after.walk) (left_to_make r q w) (which_made r q)
          stands.determinized call.determinized few_then;
      inserted = spent_on n1 n2 n3 (call_made r q w) (left_to_make r q after.walk) (left_to_make r q w) (which_made r q) (most_inserts d)
          stands.inserted call.inserted few_then;
      quits = call.quits stands.quits;
      behind = (reports call).stops ∙ (same_behind r q w ∙ (ap (overlapping_after r q) stands.behind ∙
          ap (overlapping_after_calls r q) (sym one_longer)));
      reported = subst (λ (k : ℕ). IsReportedAfter r q k old next) (sym one_longer) (told_on call);
      calls =
          let here : come + calls_then ≡ needed = ap (λ (k : ℕ). come + k)
          (sym (calls_there ∙ ap (λ (b : Bool). if b then 1 else calls_then) on)) ∙ stands.calls in
          let there : calls_for q.earliest more (rest_of r q after.walk).ends ≡ calls_for q.earliest more left =
          ap (λ (x : Rest). calls_for q.earliest more x.ends) left_is in
          let longer = one_longer in
          moved (length (stands.done ++ end_of_half half ∷ [])) come (calls_for q.earliest more (rest_of r q after.walk).ends)
          (calls_for q.earliest more left) needed longer there here;
      made = stands.made + call_made r q w;
      few = let small = stands.few in let this = few_then in omega (arith, small, this);
      changes = changes_on d (IsMadeOnOverlapping d q) old now stands.made stands.changes next (call_made r q w) (stands.made + call_made r
          q w)
          (omega arith) (call_changes done_well call);
    }
      where
        moved : (k n c m all : ℕ) → k ≡ suc n → c ≡ m → n + suc m ≡ all → k + c ≡ all
        moved k n c m all longer there here = omega (arith, longer, there, here)

    pub falls : length (rest_of r q after.walk).ends < length rest.ends
    falls =
        let a : length (rest_of r q after.walk).ends ≡ length left = ap (λ (x : Rest). length x.ends) left_is in
        let b : length rest.ends ≡ suc (length left) = ap length told_is in
        omega (arith, a, b)

-- ---- clauses

no_refusal : (earliest : Bool) (set : List Bool) (ends : List (ℕ × ℕ)) → (which_from earliest set ends None).rejection ≡ None
no_refusal earliest set [] = refl
no_refusal earliest set (x ∷ ends) = by_test (earliest || is_full (with_pattern set x.1)) (no_refusal earliest (with_pattern set x.1) ends)
  where
    by_test : (b : Bool) → (which_from earliest (with_pattern set x.1) ends None).rejection ≡ None →
        (if b then record { set = with_pattern set x.1; rejection = None } else which_from earliest (with_pattern set x.1) ends
        None).rejection ≡ None
    by_test true later = refl
    by_test false later = later

-- if there is always room and there is no error, only an allocation may fail
pub is_sure : (d : Dfa) (v : CacheValue) (q : Search) (set after : List Bool) (result : Answer) → AnswersWhich d v q set after result →
    clears_of d.options ≡ None → (whole_rest (reader d) q).rejection ≡ None → IfErr result (λ e. e ≡ NoMemory)
is_sure d v q set after result (inl a) none quiet =
    subst (λ (x : Answer). IfErr x (λ e. e ≡ NoMemory))
    (sym (a.0 ∙ ap (result_left [])
    (ap (λ (x : Option MatchErrorKind). (which_from q.earliest set (whole_rest (reader d) q).ends x).rejection) quiet
    ∙ no_refusal q.earliest set (whole_rest (reader d) q).ends))) tt
is_sure d v q set after result (inr (k, _, added, inl lacks)) none quiet = subst (λ (x : Answer). IfErr x (λ e. e ≡ NoMemory))
    (sym lacks) refl
is_sure d v q set after result (inr (k, _, added, inr g)) none quiet =
    absurd (never_here d v none q.anchored false q.haystack (span_len q) (begins_at (reader d) q) g.0 g.3)
