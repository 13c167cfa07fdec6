-- What a search over two automata does, by what its half searches did: when it stops after the first, and when it goes back.
use Rattle.std.proofs.Common.{◌≡◌, ℕ, ◌+◌, ◌*◌, ◌<◌, ◌≤◌, Bool, true, false, Option, Some, None, refl, sym, ap, ◌∙◌, ◌⊎◌, inl, inr, subst}
use Rattle.std.proofs.Common.{arith, if◌then◌else◌}
use Rattle.std.specs.Prelude.{Ok, Err, IfErr, OnOk}
use Rattle.search_types.specs.declared.match_error.MatchErrorKind.{MatchErrorKind}
use Rattle.search_types.specs.declared.match_error.MatchErrorKind.TheVariants.{NoMemory, NotAPair}
use Rattle.search_types.specs.Found.{Found, HalfFound}
use Rattle.search_types.specs.Inputs.{Search}
use Rattle.lazy_dfa.specs.Caches.{CacheValue, IsCacheOf, greatest}
use Rattle.lazy_dfa.specs.Dfas.{Dfa, reader}
use Rattle.lazy_dfa.specs.Linked.{IsLinked, GrowsOrClears, IsMoved, scans_of}
use Rattle.lazy_dfa.specs.Readers.{Reader, HalfAnswer, found, quit, unsupported}
use Rattle.lazy_dfa.specs.HalfSearchLaws.{HasNoQuitNear}
use Rattle.lazy_dfa.specs.HalfSearches.{half_search}
use Rattle.lazy_dfa.specs.SearchAnswers.{Answers, reported, progress_of, progress_by}
use Rattle.lazy_dfa.specs.SearchPromises.{MakesHalf, ReportsHalf, half_made}
use Rattle.lazy_dfa.specs.Steps.{most_inserts}
use Rattle.regex_pair.specs.Joined.{is_start_known, back_from, from_start, with_start, answer_by_end, joined}
use Rattle.regex_pair.specs.MadeSearches.{MakesBack, MakesPair}
use Rattle.regex_pair.specs.PairAnswers.{GoesBack, gives_up_forward, gives_up_back, AnswersPair, IsBackLinked, back_made_by}
use Rattle.regex_pair.specs.PairAnswers.{back_made}
use Rattle.regex_pair.specs.Pairs.{Pair, PairCache, AreCachesOf}
use Rattle.regex_pair.specs.PairProgress.{ReportsPair, tells_refusal, reports_end, tells_start, with_half}
use Rattle.regex_pair.proofs.AnswerLemmas.{Half, Whole}
use Rattle.regex_pair.proofs.AnswerLemmas.{answer, error, pair, ok_is_no_error, some_is_not_none, some_is_found, ok_is_told, finds_in_span}

-- a cache that isn't touched keeps what it has
pub untouched_grows : (d : Dfa) (v : CacheValue) → GrowsOrClears d v v
untouched_grows d v = inl (record {
  names = λ id s named. named;
  known = λ id u row unit known. refl;
  starts = λ i known. refl;
  clears = refl;
})

-- ---- when it stops after the first half search

-- the answer by that of the first half search, if an end is the match's with the span's start
abbrev pub by_end : Search → Half → Whole
by_end q (Ok (Some e)) = Ok (Some (from_start q (pair e)))
by_end q (Ok None) = Ok None
by_end q (Err x) = Err x

-- an end for which one goes back is no answer with the start
not_unknown : (known : Bool) (a b : Whole) → ((known ≡ false) → ⊥) → (if known then a else b) ≡ a
not_unknown true a b never = refl
not_unknown false a b never = absurd (never refl)

stops_joined : (f r : Reader) (q : Search) (a : HalfAnswer) → ((e : ℕ × ℕ) → a ≡ found (Some e) → is_start_known f q e.0 ≡ false → ⊥) →
    by_end q (reported a) ≡ answer_by_end f r q a
stops_joined f r q (found (Some e)) never =
    sym (not_unknown (is_start_known f q e.0) (Ok (Some (from_start q e))) (with_start e (half_search r (back_from q e.0))) (never e refl))
stops_joined f r q (found None) never = refl
stops_joined f r q (quit b x) never = refl
stops_joined f r q (unsupported mode) never = refl

on_end : (q : Search) (h : Half) (A B : Type 0) → (A → B) → OnOk h A → OnOk (by_end q h) B
on_end q (Ok (Some e)) A B g a = g a
on_end q (Ok None) A B g a = g a
on_end q (Err x) A B g a = tt

-- a clause on values, which may use that there is one
on_value : (q : Search) (h : Half) (B : Type 0) → ((f : Option HalfFound) → h ≡ Ok f → B) → OnOk (by_end q h) B
on_value q (Ok (Some e)) B g = g (Some e) refl
on_value q (Ok None) B g = g None refl
on_value q (Err x) B g = tt

if_err_end : (q : Search) (h : Half) → IfErr h (λ e. e ≡ NoMemory) → IfErr (by_end q h) (λ e. (e ≡ NoMemory) ⊎ (e ≡ NotAPair))
if_err_end q (Ok (Some e)) i = tt
if_err_end q (Ok None) i = tt
if_err_end q (Err x) i = inl i

module _ (p : Pair) (q : Search) (old new : PairCache) (m1 m2 n1 n2 : ℕ) (h : Half)
    (ends : MakesHalf p.forward q old.forward new.forward m1 m2 n1 n2 h) (same : new.reverse ≡ old.reverse)
    (never : h ≡ reported (half_search (reader p.forward) q) → (e : ℕ × ℕ) → GoesBack p q e → ⊥) where
  joined_there : h ≡ reported (half_search (reader p.forward) q) → by_end q h ≡ joined p q
  joined_there is = ap (λ (x : Half). by_end q x) is
      ∙ stops_joined (reader p.forward) (reader p.reverse) q (half_search (reader p.forward) q)
      (λ e finds unknown. never is e (record { found = finds; unknown = unknown }))

  answers_there : Answers p.forward new.forward q h → AnswersPair p new q (by_end q h)
  answers_there (inl is) = inl (joined_there is)
  answers_there (inr (inl is)) = inr (inl (ap (λ (x : Half). by_end q x) is))
  answers_there (inr (inr g)) = inr (inr (g.0, ap (λ (x : Half). by_end q x) g.1, gives_up_forward g.2))

  is_answer : (f : Option HalfFound) → h ≡ Ok f → h ≡ reported (half_search (reader p.forward) q)
  is_answer f is = is ∙ ok_is_told p.forward new.forward q f (subst (λ (x : Half). Answers p.forward new.forward q x) is ends.answers.answer)

  never_back : (f : Option HalfFound) → h ≡ Ok f → (e : ℕ × ℕ) → GoesBack p q e → ⊥
  never_back f is = never (is_answer f is)

  stops_told : (x : Half) → ((f : Option HalfFound) → x ≡ Ok f → by_end q x ≡ joined p q) → Answers p.forward new.forward q x →
      ((f : Option HalfFound) → x ≡ Ok f → (e : ℕ × ℕ) → GoesBack p q e → ⊥) → ReportsHalf p.forward q old.forward new.forward x →
      ReportsPair p q old new (by_end q x)
  stops_told (Ok (Some e)) is answers none reports = reports_end (Some e) (is (Some e) refl) answers (none (Some e) refl) reports same
  stops_told (Ok None) is answers none reports = reports_end None (is None refl) answers (none None refl) reports same
  stops_told (Err x) is answers none reports = tells_refusal x refl answers reports same

  pub stops : MakesPair p q old new m1 m2 n1 n2 (by_end q h)
  stops = record {
    answer = answers_there ends.answers.answer;
    sure = λ none none_back supported quiet quiet_back. if_err_end q h (ends.answers.sure none supported quiet);
    kept = record {
      forward = ends.cache.kept;
      reverse = subst (λ (v : CacheValue). GrowsOrClears p.reverse old.reverse v) (sym same)
          (untouched_grows p.reverse old.reverse);
    };
    untouched = λ none. same;
    linked = on_end q h (new.forward.clears ≡ old.forward.clears → old.forward.clears < greatest → IsLinked p.forward new.forward q)
        (new.forward.clears ≡ old.forward.clears → old.forward.clears < greatest → IsLinked p.forward new.forward q) (λ l. l) ends.cache.linked;
    back_linked = on_value q h (new.reverse.clears ≡ old.reverse.clears → old.reverse.clears < greatest → IsBackLinked p new.reverse q)
        (λ f is kept less e there. absurd (never_back f is e there));
    is_reported = on_end q h (new.forward.clears ≡ old.forward.clears → old.forward.clears < greatest →
        progress_of new.forward ≡ progress_by (reader p.forward) q (progress_of old.forward) (scans_of (reader p.forward) q))
        (new.forward.clears ≡ old.forward.clears → old.forward.clears < greatest →
        progress_of new.forward ≡ progress_by (reader p.forward) q (progress_of old.forward) (scans_of (reader p.forward) q)) (λ t. t)
        ends.reports.reported;
    back_told = on_value q h (new.reverse.clears ≡ old.reverse.clears → old.reverse.clears < greatest → (e : ℕ × ℕ) → GoesBack p q e →
        progress_of new.reverse ≡ progress_by (reader p.reverse) (back_from q e.0) (progress_of old.reverse)
        (scans_of (reader p.reverse) (back_from q e.0)))
        (λ f is kept less e there. absurd (never_back f is e there));
    reports = stops_told h (λ f is. joined_there (is_answer f is)) ends.answers.answer never_back ends.reports;
    moved = λ linked. record {
      forward = ends.cache.moved linked.forward;
      reverse =
          subst (λ (v : CacheValue). IsMoved old.reverse v) (sym same) refl;
    };
    free = λ linked. ends.work.free linked.forward;
    sure_if_linked = λ linked. joined_there (ends.answers.sure_if_linked linked.forward);
    determinized = let few = ends.work.determinized in omega (arith, few);
    inserted = let few = ends.work.inserted in omega (arith, few);
  }

-- ---- when it goes back

with_back : (e : HalfFound) (a : HalfAnswer) → with_half e (reported a) ≡ with_start (pair e) a
with_back e (found (Some s)) = refl
with_back e (found None) = refl
with_back e (quit b x) = refl
with_back e (unsupported mode) = refl

on_back : (e : HalfFound) (b : Half) (A B : Type 0) → (A → B) → OnOk b A → OnOk (with_half e b) B
on_back e (Ok (Some s)) A B g a = g a
on_back e (Ok None) A B g a = tt
on_back e (Err x) A B g a = tt

always_back : (e : HalfFound) (b : Half) (B : Type 0) → B → OnOk (with_half e b) B
always_back e (Ok (Some s)) B x = x
always_back e (Ok None) B x = tt
always_back e (Err y) B x = tt

if_err_back : (e : HalfFound) (b : Half) → IfErr b (λ x. x ≡ NoMemory) → IfErr (with_half e b) (λ x. (x ≡ NoMemory) ⊎ (x ≡ NotAPair))
if_err_back e (Ok (Some s)) i = tt
if_err_back e (Ok None) i = inr refl
if_err_back e (Err x) i = inl i

known_false : (known : Bool) (a b : Whole) → known ≡ false → (if known then a else b) ≡ b
known_false true a b is = let never : true ≡ false = is in absurd (grind (arith, never))
known_false false a b is = refl

no_less : (known : Bool) (made : ℕ) → known ≡ false → (if known then 0 else made) ≡ made
no_less true made is = let never : true ≡ false = is in absurd (grind (arith, never))
no_less false made is = refl

pub one_pair : (e x : ℕ × ℕ) → found (Some e) ≡ found (Some x) → e ≡ x
one_pair e x is = cc

module _ (p : Pair) (q : Search) (e : HalfFound) (there : GoesBack p q (pair e)) where
  abbrev back : Search
  back = back_from q e.offset

  -- one goes back from this end alone
  only : (x : ℕ × ℕ) → GoesBack p q x → pair e ≡ x
  only x other = one_pair (pair e) x (sym there.found ∙ other.found)

  back_joined : with_half e (reported (half_search (reader p.reverse) back)) ≡ joined p q
  back_joined = with_back e (half_search (reader p.reverse) back)
      ∙ sym (ap (λ (a : HalfAnswer). answer_by_end (reader p.forward) (reader p.reverse) q a) there.found
      ∙ known_false (is_start_known (reader p.forward) q e.offset) (Ok (Some (from_start q (pair e))))
      (with_start (pair e) (half_search (reader p.reverse) back)) there.unknown)

  back_count : back_made p q ≡ half_made (reader p.reverse) back
  back_count = ap (λ (a : HalfAnswer). back_made_by p q a) there.found
      ∙ no_less (is_start_known (reader p.forward) q e.offset) (half_made (reader p.reverse) back) there.unknown

  module _ (old new : PairCache) (m1 m2 m3 n1 n2 n3 : ℕ) (b : Half) (ends : MakesHalf p.forward q old.forward new.forward m1 m2 n1 n2
      (answer (Some e)))
      (made : MakesHalf p.reverse back old.reverse new.reverse m2 m3 n2 n3 b) where
    answers_back : Answers p.reverse new.reverse back b → AnswersPair p new q (with_half e b)
    answers_back (inl is) = inl (ap (λ (x : Half). with_half e x) is ∙ back_joined)
    answers_back (inr (inl is)) = inr (inl (ap (λ (x : Half). with_half e x) is))
    answers_back (inr (inr g)) = inr (inr (g.0, ap (λ (x : Half). with_half e x) g.1, gives_up_back (pair e) there g.2))

    near : e.offset ≤ q.end → HasNoQuitNear (reader p.reverse) q.haystack q.start q.end →
        HasNoQuitNear (reader p.reverse) q.haystack q.start e.offset
    near within quiet x from to = let up : x ≤ q.end = grind (arith, within, to) in quiet x from up

    linked_back : (new.reverse.clears ≡ old.reverse.clears → old.reverse.clears < greatest → IsLinked p.reverse new.reverse back) →
        new.reverse.clears ≡ old.reverse.clears → old.reverse.clears < greatest → IsBackLinked p new.reverse q
    linked_back l same less x other = subst (λ (y : ℕ × ℕ). IsLinked p.reverse new.reverse (back_from q y.0)) (only x other) (l same less)

    abbrev IsTold : ℕ × ℕ → Type 0
    IsTold x = progress_of new.reverse ≡ progress_by (reader p.reverse) (back_from q x.0) (progress_of old.reverse)
        (scans_of (reader p.reverse) (back_from q x.0))

    told_back : (new.reverse.clears ≡ old.reverse.clears → old.reverse.clears < greatest → IsTold (pair e)) →
        new.reverse.clears ≡ old.reverse.clears → old.reverse.clears < greatest → (x : ℕ × ℕ) → GoesBack p q x → IsTold x
    told_back t same less x other = subst IsTold (only x other) (t same less)

    few_made : m3 ≤ m1 + (half_made (reader p.forward) q + back_made p q)
    few_made = let up = ends.work.determinized in let is_reverse = made.work.determinized in
        subst (λ (k : ℕ). m3 ≤ m1 + (half_made (reader p.forward) q + k)) (sym back_count) (omega (arith, up, is_reverse))

    few_put : n3 ≤ n1 + (half_made (reader p.forward) q * most_inserts p.forward + back_made p q * most_inserts p.reverse)
    few_put = let up = ends.work.inserted in let is_reverse = made.work.inserted in
        subst (λ (k : ℕ). n3 ≤ n1 + (half_made (reader p.forward) q * most_inserts p.forward + k * most_inserts p.reverse)) (sym back_count)
        (omega (arith, up, is_reverse))

    goes : MakesPair p q old new m1 m3 n1 n3 (with_half e b)
    goes = record {
      answer = answers_back made.answers.answer;
      sure = λ none none_back supported quiet quiet_back. if_err_back e b
          (made.answers.sure none_back refl (near (finds_in_span p.forward new.forward q e ends.answers.answer).1 quiet_back));
      kept = record { forward = ends.cache.kept; reverse = made.cache.kept };
      untouched = λ none. absurd (none (pair e) there);
      linked = always_back e b (new.forward.clears ≡ old.forward.clears → old.forward.clears < greatest →
          IsLinked p.forward new.forward q) ends.cache.linked;
      back_linked = on_back e b (new.reverse.clears ≡ old.reverse.clears → old.reverse.clears < greatest →
          IsLinked p.reverse new.reverse back)
          (new.reverse.clears ≡ old.reverse.clears → old.reverse.clears < greatest → IsBackLinked p new.reverse q) linked_back made.cache.linked;
      is_reported = always_back e b (new.forward.clears ≡ old.forward.clears → old.forward.clears < greatest →
          progress_of new.forward ≡ progress_by (reader p.forward) q (progress_of old.forward) (scans_of (reader p.forward) q))
          ends.reports.reported;
      back_told = on_back e b (new.reverse.clears ≡ old.reverse.clears → old.reverse.clears < greatest → IsTold (pair e))
          (new.reverse.clears ≡ old.reverse.clears → old.reverse.clears < greatest → (x : ℕ × ℕ) → GoesBack p q x →
          IsTold x) told_back made.reports.reported;
      reports = tells_start e b refl there made.answers.answer ends.reports made.reports;
      moved = λ linked. record { forward = ends.cache.moved linked.forward; reverse = made.cache.moved (linked.back (pair e) there) };
      free = λ linked. let up = ends.work.free linked.forward in let is_reverse = made.work.free (linked.back (pair e) there) in
          (is_reverse.0 ∙ up.0, is_reverse.1 ∙ up.1);
      sure_if_linked = λ linked. ap (λ (x : Half). with_half e x) (made.answers.sure_if_linked (linked.back (pair e) there)) ∙ back_joined;
      determinized = few_made;
      inserted = few_put;
    }

-- ---- the ways in which a search ends

-- if the first half search came from f to g and found an end
module _ (p : Pair) (q : Search) (f g : CacheValue) (m1 m2 n1 n2 : ℕ) (h : Half) (o : Option HalfFound) (e : HalfFound)
    (ends : MakesHalf p.forward q f g m1 m2 n1 n2 h) (ok : h ≡ Ok o) (some : o ≡ Some e) where
  abbrev is_value : h ≡ answer (Some e)
  is_value = ok ∙ ap answer some

  ends_there : MakesHalf p.forward q f g m1 m2 n1 n2 (answer (Some e))
  ends_there = subst (λ (x : Half). MakesHalf p.forward q f g m1 m2 n1 n2 x) is_value ends

  pub lies : (q.start ≤ e.offset) × (e.offset ≤ q.end)
  lies = finds_in_span p.forward g q e ends_there.answers.answer

  -- so a match from the span's start on is one
  pub lies_behind : (start : ℕ) → start ≡ q.start → start ≤ e.offset
  lies_behind start is = subst (λ (k : ℕ). k ≤ e.offset) (sym is) lies.0

  is_found : half_search (reader p.forward) q ≡ found (Some (pair e))
  is_found = some_is_found (half_search (reader p.forward) q) e (ok_is_told p.forward g q (Some e) ends_there.answers.answer)

  not_both : (b : Bool) → b ≡ true → b ≡ false → ⊥
  not_both b is not = let never : true ≡ false = sym is ∙ not in absurd (grind (arith, never))

  -- the start is known
  pub starts_there : (r : CacheValue) (old : PairCache) (known : Bool) (at start : ℕ) (m : Found) →
      record { forward = f; reverse = r } ≡ old →
      known ≡ is_start_known (reader p.forward) q at → known ≡ true → at ≡ e.offset → start ≡ q.start →
      m ≡ record { pattern = e.pattern; start = start; end = e.offset } →
      MakesPair p q old (record { forward = g; reverse = r }) m1 m2 n1 n2 (Ok (Some m))
  starts_there r old known at start m was told_known is_known same first made =
      let told_there : is_start_known (reader p.forward) q e.offset ≡ true =
      ap (λ (k : ℕ). is_start_known (reader p.forward) q k) (sym same) ∙ sym told_known ∙ is_known in
      let match_there : m ≡ from_start q (pair e) = made ∙ ap (λ (k : ℕ). record {
        pattern = e.pattern;
        start = k;
        end = e.offset;
      }) first in
      subst (λ (c : PairCache). MakesPair p q c (record { forward = g; reverse = r }) m1 m2 n1 n2 (Ok (Some m))) was
      (subst (λ (x : Found). MakesPair p q (record { forward = f; reverse = r }) (record { forward = g; reverse = r }) m1 m2 n1 n2
      (Ok (Some x))) (sym match_there)
      (stops p q (record { forward = f; reverse = r }) (record { forward = g; reverse = r }) m1 m2 n1 n2 (answer (Some e)) ends_there refl
      (λ is x there. not_both (is_start_known (reader p.forward) q e.offset) told_there
      (subst (λ (y : ℕ × ℕ). is_start_known (reader p.forward) q y.0 ≡ false)
      (one_pair x (pair e) (sym there.found ∙ is_found)) there.unknown))))

  -- one goes back
  pub goes_back : (r s : CacheValue) (old : PairCache) (m3 n3 : ℕ) (known : Bool) (at : ℕ) (result : Whole) →
      record { forward = f; reverse = r } ≡ old →
      known ≡ is_start_known (reader p.forward) q at → known ≡ false → at ≡ e.offset → MakesBack p q e r s m2 m3 n2 n3 result →
      MakesPair p q old (record { forward = g; reverse = s }) m1 m3 n1 n3 result
  goes_back r s old m3 n3 known at result was told_known is_unknown same back =
      let told_there : is_start_known (reader p.forward) q e.offset ≡ false =
      ap (λ (k : ℕ). is_start_known (reader p.forward) q k) (sym same) ∙ sym told_known ∙ is_unknown in
      subst (λ (c : PairCache). MakesPair p q c (record { forward = g; reverse = s }) m1 m3 n1 n3 result) was
      (subst (λ (x : Whole). MakesPair p q (record { forward = f; reverse = r }) (record { forward = g; reverse = s }) m1 m3 n1 n3 x)
      (sym back.answer)
      (goes p q e (record { found = is_found; unknown = told_there }) (record { forward = f; reverse = r }) (record {
        forward = g;
        reverse = s;
      })
      m1 m2 m3 n1 n2 n3 back.half ends_there back.made))

module _ (p : Pair) (q : Search) (f g r : CacheValue) (old : PairCache) (m1 m2 n1 n2 : ℕ) (h : Half) (was : record {
  forward = f;
  reverse = r;
} ≡ old)
    (ends : MakesHalf p.forward q f g m1 m2 n1 n2 h) where
  ends_so : (y : Half) (w : Whole) → h ≡ y → w ≡ by_end q y → (y ≡ reported (half_search (reader p.forward) q) → (e : ℕ × ℕ) →
      GoesBack p q e → ⊥) →
      MakesPair p q old (record { forward = g; reverse = r }) m1 m2 n1 n2 w
  ends_so y w is gives never =
      subst (λ (c : PairCache). MakesPair p q c (record { forward = g; reverse = r }) m1 m2 n1 n2 w) was
      (subst (λ (x : Whole). MakesPair p q (record { forward = f; reverse = r }) (record { forward = g; reverse = r }) m1 m2 n1 n2 x)
      (sym gives)
      (stops p q (record { forward = f; reverse = r }) (record { forward = g; reverse = r }) m1 m2 n1 n2 y
      (subst (λ (x : Half). MakesHalf p.forward q f g m1 m2 n1 n2 x) is ends) refl never))

  -- the first half search fails
  pub fails : (x : MatchErrorKind) → h ≡ Err x → MakesPair p q old (record { forward = g; reverse = r }) m1 m2 n1 n2 (Err x)
  fails x is = ends_so (error x) (Err x) is refl
      (λ told_so e there. ok_is_no_error (Some (record { pattern = e.1; offset = e.0 })) x ⊥ (sym (told_so ∙ ap reported there.found)))

  -- it finds no end
  pub finds_none : (o : Option HalfFound) → h ≡ Ok o → o ≡ None → MakesPair p q old (record { forward = g; reverse = r }) m1 m2 n1 n2
      (Ok None)
  finds_none o ok none = ends_so (answer None) (Ok None) (ok ∙ ap answer none) refl
      (λ told_so e there. some_is_not_none (record { pattern = e.1; offset = e.0 }) ⊥ (sym (told_so ∙ ap reported there.found)))

-- of caches that are taken apart each is one of its automaton
module _ (p : Pair) (f r : CacheValue) (w : PairCache) (is : record { forward = f; reverse = r } ≡ w) (own : AreCachesOf p w) where
  pub own_inside : AreCachesOf p (record { forward = f; reverse = r })
  own_inside = subst (AreCachesOf p) (sym is) own

  pub own_forward : IsCacheOf p.forward f
  own_forward = own_inside.forward

  pub own_reverse : IsCacheOf p.reverse r
  own_reverse = own_inside.reverse
