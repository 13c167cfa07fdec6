-- What a half search has done after some of its scans.
use Rattle.std.proofs.Common.{◌≡◌, ℕ, suc, ◌+◌, ◌*◌, ◌≤◌, min, List, [], ◌∷◌, ◌++◌, Option, refl, sym, ap, ◌∙◌, ◌⊎◌, inl, inr, subst, arith}
use Rattle.std.specs.Prelude.{Result, Ok, Err}
use Rattle.std.proofs.lemmas.List.{append_assoc}
use Rattle.std.proofs.lemmas.List.Elements.{All-nil, All-cons, All-head, All-push}
use Rattle.search_types.specs.declared.match_error.MatchErrorKind.{MatchErrorKind}
use Rattle.search_types.specs.declared.match_error.MatchErrorKind.TheVariants.{GaveUp, NoMemory}
use Rattle.search_types.specs.Found.{HalfFound}
use Rattle.search_types.specs.Inputs.{Search, with_span}
use Rattle.search_types.specs.Places.{counts}
use Rattle.lazy_dfa.specs.AnewProgress.{ReportsAnew, ReportedSince, fails_later, fails_there}
use Rattle.lazy_dfa.specs.Caches.{CacheValue, IsCacheOf, greatest}
use Rattle.lazy_dfa.specs.Dfas.{Dfa, IsDfa, reader}
use Rattle.lazy_dfa.specs.LeftProgress.{LeavesScan}
use Rattle.lazy_dfa.specs.Linked.{IsLinkedScan, AreLinked, CacheGrows, HasCleared, GrowsOrClears, IsMoved, scans_of}
use Rattle.lazy_dfa.specs.MadeScans.{IsScanReported, IsSearchReported, MakesScan, MakesSearch}
use Rattle.lazy_dfa.specs.ScanLaws.{scan_len_of}
use Rattle.lazy_dfa.specs.Readers.{Reader}
use Rattle.lazy_dfa.specs.HalfSearches.{half_search}
use Rattle.lazy_dfa.specs.SearchAnswers.{reported, GivesUpIn, GivesUpAmong, Answers, ProgressValue, progress_of, progress_by_scan}
use Rattle.lazy_dfa.specs.SearchAnswers.{progress_by}
use Rattle.lazy_dfa.specs.SearchAnswers.{made_by}
use Rattle.lazy_dfa.specs.Steps.{most_inserts}
use Rattle.lazy_dfa.specs.Changes.{Changes, unchanged, IsMadeIn, IsMadeAmong}
use Rattle.lazy_dfa.proofs.CacheChanges.ChangesLemmas.{changes_into, changes_on, among_before, among_there}
use Rattle.lazy_dfa.proofs.Courses.AnswerLemmas.{error, error_is_whole, gave_up_among}
use Rattle.lazy_dfa.proofs.CacheChanges.LinkedLemmas.{AreBytes, grows_refl, grows_trans, cleared_grows, moved_refl, moved_trans}
use Rattle.lazy_dfa.proofs.CacheChanges.LinkedLemmas.{linked_pass_moved}
use Rattle.lazy_dfa.proofs.CacheChanges.LinkedLemmas.{are_linked_grows}
use Rattle.lazy_dfa.proofs.Courses.PassListLemmas.{first_pass, first_answer, whole_scan}
use Rattle.look_core.proofs.ForCallers.{All-left, All-right}

-- ---- clears

cleared_later : (d : Dfa) (a b c : CacheValue) → CacheGrows d a b → HasCleared b c → HasCleared a c
cleared_later d a b c g m = subst (λ (n : ℕ). min (n + 1) greatest ≤ c.clears) g.clears m

-- ---- lists of scans

abbrev len_of : Reader → Search → ℕ × ℕ → ℕ
len_of r q p = scan_len_of r q.anchored q.earliest q.haystack p.0 p.1

pub made_join : (r : Reader) (q : Search) (ps tail : List (ℕ × ℕ)) (p : ℕ × ℕ) →
    made_by r q (ps ++ p ∷ tail) ≡ made_by r q ps + suc (len_of r q p) + made_by r q tail
made_join r q [] tail p = omega arith
made_join r q (o ∷ ps) tail p = let rest = made_join r q ps tail p in omega (arith, rest)

told_join : (r : Reader) (q : Search) (t : ProgressValue) (ps : List (ℕ × ℕ)) (p : ℕ × ℕ) →
    progress_by r q t (ps ++ p ∷ []) ≡ progress_by_scan r q.anchored q.earliest q.haystack (progress_by r q t ps) p
told_join r q t [] p = refl
told_join r q t (o ∷ ps) p = told_join r q (progress_by_scan r q.anchored q.earliest q.haystack t o) ps p

more_made : (m1 m2 m3 x y z all : ℕ) → all ≡ x + y + z → m2 ≤ m1 + x → m3 ≤ m2 + y → m3 ≤ m1 + all
more_made m1 m2 m3 x y z all is a b = omega (arith, is, a, b)

more_inserted : (n1 n2 n3 x y z all k : ℕ) → all ≡ x + y + z → n2 ≤ n1 + x * k → n3 ≤ n2 + y * k → n3 ≤ n1 + all * k
more_inserted n1 n2 n3 x y z all k is a b =
    subst (λ (w : ℕ). n3 ≤ n1 + w * k) (sym is) (omega (arith, a, b))

-- ---- what was done

-- these scans were made, and this is the cache and the work after them
pub record HasMade (d : Dfa) (q : Search) (old now : CacheValue) (m1 m2 n1 n2 : ℕ) (ps : List (ℕ × ℕ)) : Type 0 where
  pub kept : (CacheGrows d old now × AreLinked d now q ps × (progress_of now ≡ progress_by (reader d) q (progress_of old) ps)) ⊎
      HasCleared old now
  pub free : AreLinked d old q ps → IsMoved old now × (m2 ≡ m1) × (n2 ≡ n1)
  pub determinized : m2 ≤ m1 + made_by (reader d) q ps
  pub inserted : n2 ≤ n1 + made_by (reader d) q ps * most_inserts d
  pub anew : ((progress_of now ≡ progress_by (reader d) q (progress_of old) ps) × (now.clears ≡ old.clears)) ⊎
      (HasCleared old now × ReportedSince (reader d) q ps (progress_of now))
  pub changes : Changes d (IsMadeAmong d q ps) old now (made_by (reader d) q ps)

-- what is left to search after these scans
pub record IsLeft (r : Reader) (q t : Search) (ps : List (ℕ × ℕ)) : Type 0 where
  pub same : t ≡ with_span t.start t.end q
  pub half_search : half_search r t ≡ half_search r q
  pub passes : ps ++ scans_of r t ≡ scans_of r q

-- what was made and what is left: how far a half search has come
pub record HasCome (d : Dfa) (q t : Search) (old now : CacheValue) (m1 m2 n1 n2 : ℕ) : Type 0 where
  pub passes : List (ℕ × ℕ)
  pub made : HasMade d q old now m1 m2 n1 n2 passes
  pub left : IsLeft (reader d) q t passes

pub begins : (d : Dfa) (q t : Search) (v : CacheValue) (m n : ℕ) → t ≡ q → HasCome d q t v v m m n n
begins d q t v m n is = record {
  passes = [];
  made = record {
    kept = inl (grows_refl d v, All-nil (λ p. IsLinkedScan d v q.anchored q.earliest q.haystack p.0 p.1), refl);
    free = λ linked. (moved_refl v, refl, refl);
    determinized = omega arith;
    inserted = omega arith;
    anew = inl (refl, refl);
    changes = unchanged v 0 refl;
  };
  left = record {
    same = is ∙ ap (λ (x : Search). with_span x.start x.end q) (sym is);
    half_search = ap (half_search (reader d)) is;
    passes = ap (scans_of (reader d)) is;
  };
}

module _ (d : Dfa) (q : Search) (old now next : CacheValue) (m1 m2 m3 n1 n2 n3 : ℕ) (ps : List (ℕ × ℕ)) (fit : IsDfa d)
    (own_old : IsCacheOf d old) (own_now : IsCacheOf d now) (bytes : AreBytes q.haystack) (made : HasMade d q old now m1 m2 n1 n2 ps)
    (s e : ℕ) where
  abbrev r : Reader
  r = reader d

  -- the scan that is made next
  abbrev rest : Search
  rest = with_span s e q

  abbrev p : ℕ × ℕ
  p = first_pass r rest

  abbrev IsKnownPass : CacheValue → ℕ × ℕ → Type 0
  IsKnownPass v o = IsLinkedScan d v q.anchored q.earliest q.haystack o.0 o.1

  abbrev HasKept : CacheValue → CacheValue → List (ℕ × ℕ) → Type 0
  HasKept v w os = (CacheGrows d v w × AreLinked d w q os × (progress_of w ≡ progress_by r q (progress_of v) os)) ⊎ HasCleared v w

  kept_one : HasKept old now ps → HasKept now next (p ∷ []) → HasKept old next (ps ++ p ∷ [])
  kept_one (inl a) (inl b) = inl (
    grows_trans d old now next fit own_old a.0 b.0,
    All-push (IsKnownPass next) ps p (are_linked_grows d now next own_now b.0 q ps fit bytes a.1) (All-head (IsKnownPass next) p [] b.1),
    b.2 ∙ ap (λ (t : ProgressValue). progress_by_scan r q.anchored q.earliest q.haystack t p) a.2 ∙
        sym (told_join r q (progress_of old) ps p),
  )
  kept_one (inl a) (inr c) = inr (cleared_later d old now next a.0 c)
  kept_one (inr c) (inl b) = inr (cleared_grows d old now next c (inl b.0))
  kept_one (inr c) (inr more) = inr (cleared_grows d old now next c (inr more))

  grown_or_cleared : HasKept old now ps → GrowsOrClears d now next → GrowsOrClears d old next
  grown_or_cleared (inl a) (inl b) = inl (grows_trans d old now next fit own_old a.0 b)
  grown_or_cleared (inl a) (inr c) = inr (cleared_later d old now next a.0 c)
  grown_or_cleared (inr c) b = inr (cleared_grows d old now next c b)

  abbrev Pass : Result (Option HalfFound) MatchErrorKind → Type 0
  Pass result = MakesScan d rest now next m2 m3 n2 n3 result

  abbrev IsFree : Result (Option HalfFound) MatchErrorKind → Type 0
  IsFree result = IsMoved old next × (m3 ≡ m1) × (n3 ≡ n1) × (result ≡ reported (first_answer r rest))

  free_one : (result : Result (Option HalfFound) MatchErrorKind) (tail : List (ℕ × ℕ)) → Pass result → AreLinked d old q (ps ++ p ∷ tail) →
      IsFree result
  free_one result tail scan linked =
      let a = made.free (All-left (IsKnownPass old) ps (p ∷ tail) linked) in
      let here : IsKnownPass old p = All-head (IsKnownPass old) p tail (All-right (IsKnownPass old) ps (p ∷ tail) linked) in
      let b = scan.free (linked_pass_moved d old now a.0 q.anchored q.earliest q.haystack p.0 p.1 here) in
      (moved_trans old now next a.0 b.0, b.1 ∙ a.1, b.2 ∙ a.2, b.3)

  few_made : (result : Result (Option HalfFound) MatchErrorKind) (tail : List (ℕ × ℕ)) → Pass result →
      m3 ≤ m1 + made_by r q (ps ++ p ∷ tail)
  few_made result tail scan =
      more_made m1 m2 m3 (made_by r q ps) (suc (len_of r q p)) (made_by r q tail) (made_by r q (ps ++ p ∷ tail))
      (made_join r q ps tail p) made.determinized scan.determinized

  few_inserted : (result : Result (Option HalfFound) MatchErrorKind) (tail : List (ℕ × ℕ)) → Pass result →
      n3 ≤ n1 + made_by r q (ps ++ p ∷ tail) * most_inserts d
  few_inserted result tail scan =
      more_inserted n1 n2 n3 (made_by r q ps) (suc (len_of r q p)) (made_by r q tail) (made_by r q (ps ++ p ∷ tail)) (most_inserts d)
      (made_join r q ps tail p) made.inserted scan.inserted

  one_kept : (CacheGrows d now next × IsKnownPass next p ×
      (progress_of next ≡ progress_by_scan r q.anchored q.earliest q.haystack (progress_of now) p)) ⊎
      HasCleared now next →
      HasKept now next (p ∷ [])
  one_kept (inl b) = inl (b.0, All-cons (IsKnownPass next) p [] b.1 (All-nil (IsKnownPass next)), b.2)
  one_kept (inr c) = inr c

  -- the progress of the search if the cache was cleared
  abbrev IsTold : CacheValue → List (ℕ × ℕ) → Type 0
  IsTold v os = ((progress_of v ≡ progress_by r q (progress_of old) os) × (v.clears ≡ old.clears)) ⊎ (HasCleared old v ×
      ReportedSince r q os (progress_of v))

  cleared_before : HasCleared old now → GrowsOrClears d now next → HasCleared old next
  cleared_before c kept = cleared_grows d old now next c kept

  cleared_now : HasKept old now ps → HasCleared now next → HasCleared old next
  cleared_now (inl a) c = cleared_later d old now next a.0 c
  cleared_now (inr a) c = cleared_grows d old now next a (inr c)

  since_before : ReportedSince r q ps (progress_of now) → progress_of next ≡
      progress_by_scan r q.anchored q.earliest q.haystack (progress_of now) p →
      ReportedSince r q (ps ++ p ∷ []) (progress_of next)
  since_before t e = record {
    done = t.done;
    cut = t.cut;
    behind = t.behind ++ p ∷ [];
    all = ap (λ (os : List (ℕ × ℕ)). os ++ p ∷ []) t.all ∙ append_assoc t.done (t.cut ∷ t.behind) (p ∷ []);
    first = t.first;
    anew = t.anew;
    reported = e ∙ (ap (λ (u : ProgressValue). progress_by_scan r q.anchored q.earliest q.haystack u p) t.reported ∙
        sym (told_join r q t.first t.behind p));
  }

  since_now : ReportsAnew r q.anchored q.earliest q.haystack p (progress_of next) → ReportedSince r q (ps ++ p ∷ []) (progress_of next)
  since_now t = record { done = ps; cut = p; behind = []; all = refl; first = progress_of next; anew = t; reported = refl }

  anew_one : (f : Option HalfFound) → Pass (Ok f) → IsTold now ps → IsScanReported d q.anchored q.earliest q.haystack p (Ok f) now next →
      IsTold next (ps ++ p ∷ [])
  anew_one f scan (inl a) (inl b) = inl (
    b.0 ∙ (ap (λ (t : ProgressValue). progress_by_scan r q.anchored q.earliest q.haystack t p) a.0 ∙
        sym (told_join r q (progress_of old) ps p)),
    b.1 ∙ a.1,
  )
  anew_one f scan (inr c) (inl b) = inr (cleared_before c.0 scan.kept, since_before c.1 b.0)
  anew_one f scan a (inr c) = inr (cleared_now made.kept c.0, since_now c.1)

  changes_made : (result : Result (Option HalfFound) MatchErrorKind) (tail : List (ℕ × ℕ)) → Pass result →
      Changes d (IsMadeAmong d q (ps ++ p ∷ tail)) old next (made_by r q (ps ++ p ∷ tail))
  changes_made result tail scan =
      let sum = made_join r q ps tail p in
      changes_on d (IsMadeAmong d q (ps ++ p ∷ tail)) old now (made_by r q ps)
      (changes_into d (IsMadeAmong d q ps) (IsMadeAmong d q (ps ++ p ∷ tail)) (among_before d q ps (p ∷ tail)) old now (made_by r q ps)
      made.changes)
      next (suc (len_of r q p)) (made_by r q (ps ++ p ∷ tail)) (omega (arith, sum))
      (changes_into d (IsMadeIn d q.anchored q.earliest q.haystack p) (IsMadeAmong d q (ps ++ p ∷ tail)) (among_there d q ps tail p) now
      next
      (suc (len_of r q p)) scan.changes)

  pub makes_one : (f : Option HalfFound) → Pass (Ok f) → HasMade d q old next m1 m3 n1 n3 (ps ++ p ∷ [])
  makes_one f scan = record {
    kept = kept_one made.kept (one_kept scan.follows);
    free = λ linked. let free = free_one (Ok f) [] scan linked in (free.0, free.1, free.2);
    determinized = few_made (Ok f) [] scan;
    inserted = few_inserted (Ok f) [] scan;
    anew = anew_one f scan made.anew scan.anew;
    changes = changes_made (Ok f) [] scan;
  }

  module _ (fits : s ≤ e) (tail : List (ℕ × ℕ)) (all : ps ++ p ∷ tail ≡ scans_of r q) (same : half_search r rest ≡ half_search r q)
      (x : MatchErrorKind) where
    told_whole : Err x ≡ reported (first_answer r rest) → Err x ≡ reported (half_search r q)
    told_whole is =
        is ∙ ap reported (sym (whole_scan r rest fits (error_is_whole (counts r.between_characters q.haystack) (first_answer r rest) x is))
        ∙ same)

    answered : (Err x ≡ reported (first_answer r rest)) ⊎ (error x ≡ error NoMemory) ⊎
        ((i : ℕ) × (error x ≡ error (GaveUp i)) × GivesUpIn d next q.anchored q.earliest q.haystack p.0 p.1 i) → Answers d next q (Err x)
    answered (inl is) = inl (told_whole is)
    answered (inr (inl lacks)) = inr (inl lacks)
    answered (inr (inr g)) =
        inr (inr (g.0, g.1, subst (λ (os : List (ℕ × ℕ)). GivesUpAmong d next q g.0 os) all (gave_up_among d next q g.0 ps tail p g.2)))

    fails_anew : Pass (Err x) → IsTold now ps → IsScanReported d q.anchored q.earliest q.haystack p (Err x) now next →
        IsSearchReported d q (Err x) old next
    fails_anew scan (inl a) (inl l) = inl (
      record {
        done = ps;
        refused = p;
        behind = tail;
        all = sym all;
        left = subst (λ (t : ProgressValue). LeavesScan d q.anchored q.earliest q.haystack p x t next) a.0 l.0;
      },
      l.1 ∙ a.1,
    )
    fails_anew scan (inr c) (inl l) = inr (cleared_before c.0 scan.kept, fails_later ps tail p (progress_of now) (sym all) c.1 l.0)
    fails_anew scan a (inr c) = inr (cleared_now made.kept c.0, fails_there ps tail p (sym all) c.1)

    pub fails_here : Pass (Err x) → MakesSearch d q old next m1 m3 n1 n3 (Err x)
    fails_here scan = record {
      answer = answered scan.answer;
      kept = grown_or_cleared made.kept scan.kept;
      follows = tt;
      free = λ linked. let free = free_one (Err x) tail scan (subst (λ (os : List (ℕ × ℕ)). AreLinked d old q os) (sym all) linked) in
          (free.0, free.1, free.2, told_whole free.3);
      determinized = subst (λ (os : List (ℕ × ℕ)). m3 ≤ m1 + made_by r q os) all (few_made (Err x) tail scan);
      inserted = subst (λ (os : List (ℕ × ℕ)). n3 ≤ n1 + made_by r q os * most_inserts d) all (few_inserted (Err x) tail scan);
      anew = fails_anew scan made.anew scan.anew;
      changes = subst (λ (os : List (ℕ × ℕ)). Changes d (IsMadeAmong d q os) old next (made_by r q os)) all
          (changes_made (Err x) tail scan);
    }

-- all scans were made
module _ (d : Dfa) (q : Search) (old now : CacheValue) (m1 m2 n1 n2 : ℕ) (f : Option HalfFound)
    (told_is : Ok f ≡ reported (half_search (reader d) q)) where
  whole_kept : (ps : List (ℕ × ℕ)) → (CacheGrows d old now × AreLinked d now q ps ×
      (progress_of now ≡ progress_by (reader d) q (progress_of old) ps)) ⊎
      HasCleared old now →
      GrowsOrClears d old now
  whole_kept ps (inl a) = inl a.0
  whole_kept ps (inr c) = inr c

  finished : HasMade d q old now m1 m2 n1 n2 (scans_of (reader d) q) → MakesSearch d q old now m1 m2 n1 n2 (Ok f)
  finished made = record {
    answer = inl told_is;
    kept = whole_kept (scans_of (reader d) q) made.kept;
    follows = made.kept;
    free = λ linked. let free = made.free linked in (free.0, free.1, free.2, told_is);
    determinized = made.determinized;
    inserted = made.inserted;
    anew = made.anew;
    changes = made.changes;
  }

  pub finishes : (ps : List (ℕ × ℕ)) → ps ≡ scans_of (reader d) q → HasMade d q old now m1 m2 n1 n2 ps →
      MakesSearch d q old now m1 m2 n1 n2 (Ok f)
  finishes ps all made = finished (subst (λ (os : List (ℕ × ℕ)). HasMade d q old now m1 m2 n1 n2 os) all made)
