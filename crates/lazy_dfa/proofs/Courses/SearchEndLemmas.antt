-- How a half search goes on, and how it ends, by the result of its next scan.
use Rattle.std.proofs.Common.{◌≡◌, ℕ, ◌+◌, ◌-◌, ◌<◌, ◌≤◌, Bool, true, false, not, List, [], ◌∷◌, ◌++◌, Option, Some, None, refl, sym, ap}
use Rattle.std.proofs.Common.{◌∙◌, ⊎_elim, subst, arith, true≢false}
use Rattle.std.specs.Prelude.{Result, Ok, Err, IsTrue, ◌↔◌}
use Rattle.std.proofs.lemmas.Bool.{cases_lt}
use Rattle.std.proofs.lemmas.List.{append_assoc, append-nil}
use Rattle.search_core.specs.Utf8.{is_boundary}
use Rattle.search_types.specs.declared.match_error.MatchErrorKind.{MatchErrorKind}
use Rattle.search_types.specs.Found.{HalfFound}
use Rattle.search_types.specs.Inputs.{Search, with_span}
use Rattle.search_types.specs.Modes.{is_anchored}
use Rattle.search_types.specs.Places.{counts}
use Rattle.lazy_dfa.specs.Caches.{CacheValue, IsCacheOf}
use Rattle.lazy_dfa.specs.Dfas.{Dfa, IsDfa, reader}
use Rattle.lazy_dfa.specs.Linked.{scans_of}
use Rattle.lazy_dfa.specs.MadeScans.{MakesScan, MakesSearch}
use Rattle.lazy_dfa.specs.ScanLaws.{splits}
use Rattle.lazy_dfa.specs.Readers.{Reader, found}
use Rattle.lazy_dfa.specs.HalfSearchLaws.{shorter}
use Rattle.lazy_dfa.specs.HalfSearches.{half_search}
use Rattle.lazy_dfa.specs.SearchAnswers.{pair_of, reported, GivesUpIn}
use Rattle.lazy_dfa.proofs.Courses.AnswerLemmas.{answer, ok_is_told, ok_is_found}
use Rattle.lazy_dfa.proofs.CacheChanges.LinkedLemmas.{AreBytes}
use Rattle.lazy_dfa.proofs.Courses.PassListLemmas.{first_pass, first_answer, first_splits, done_passes, whole_once, whole_scan}
use Rattle.lazy_dfa.proofs.Courses.PassListLemmas.{anchored_once}
use Rattle.lazy_dfa.proofs.Courses.PassListLemmas.{anchored_scan, lowest_once, lowest_scan, passes_begin, passes_anew, scan_anew}
use Rattle.lazy_dfa.proofs.HalfSearches.ScanLemmas.{scan_done}
use Rattle.lazy_dfa.proofs.Courses.SearchLemmas.{HasMade, HasCome, begins, makes_one, fails_here, finishes}

-- ---- what the tests show

pub not_done : (b : Bool) (s e : ℕ) → (IsTrue b ↔ (e < s)) → b ≡ false → s ≤ e
not_done b s e f is = ⊎_elim
    (λ (past : e < s). let t = f.1 past in absurd (grind (arith, t, is)))
    (λ l. l)
    (cases_lt e s)

pub is_over : (b : Bool) (s e : ℕ) → (IsTrue b ↔ (e < s)) → b ≡ true → e < s
is_over b s e f is = f.0 is

pub each_counts : (w : Bool) (h : List ℕ) (j : ℕ) → w ≡ false → counts w h j ≡ true
each_counts w h j e = ap (λ (b : Bool). counts b h j) e

pub boundary_counts : (w : Bool) (h : List ℕ) (j : ℕ) → is_boundary h j ≡ true → counts w h j ≡ true
boundary_counts true h j is = is
boundary_counts false h j is = refl

pub inside_counts : (w : Bool) (h : List ℕ) (j : ℕ) → w ≡ true → is_boundary h j ≡ false → counts w h j ≡ false
inside_counts w h j e is = ap (λ (x : Bool). counts x h j) e ∙ is

pub above_none : (x e : ℕ) → x ≡ e → (x ≡ 0 → ⊥) → 0 < e
above_none x e is some = ⊎_elim (λ (l : 0 < e). l) (λ (none : e ≤ 0). absurd (some (is ∙ zero_is e none))) (cases_lt 0 e)
  where
    zero_is : (e : ℕ) → e ≤ 0 → e ≡ 0
    zero_is e none = omega (arith, none)

pub lower_end : (t u : Search) → t.start ≤ t.end → 0 < t.end → u ≡ with_span t.start (t.end - 1) t →
    u.end + 1 - u.start < t.end + 1 - t.start
lower_end t u fits some is = subst (λ (x : Search). x.end + 1 - x.start < t.end + 1 - t.start) (sym is) (omega (arith, fits, some))

-- ---- what is left

module _ (d : Dfa) (q t : Search) (old now : CacheValue) (m1 m2 n1 n2 : ℕ) (stands : HasCome d q t old now m1 m2 n1 n2) where
  pub done_ends : t.end < t.start → MakesSearch d q old now m1 m2 n1 n2 (Ok None)
  done_ends past =
      finishes d q old now m1 m2 n1 n2 None (ap reported (sym (scan_done (reader d) t past) ∙ stands.left.half_search)) stands.passes
      (sym (append-nil stands.passes) ∙ sym (ap (λ (os : List (ℕ × ℕ)). stands.passes ++ os) (done_passes (reader d) t past))
      ∙ stands.left.passes)
      stands.made

module _ (d : Dfa) (q t : Search) (old now next : CacheValue) (m1 m2 m3 n1 n2 n3 : ℕ) (fit : IsDfa d)
    (own_old : IsCacheOf d old) (own_now : IsCacheOf d now) (bytes : AreBytes q.haystack) (stands : HasCome d q t old now m1 m2 n1 n2)
    (fits : t.start ≤ t.end) where
  abbrev r : Reader
  r = reader d

  abbrev behind : List (ℕ × ℕ)
  behind = stands.passes ++ first_pass r t ∷ []

  pub fails : (x : MatchErrorKind) → MakesScan d t now next m2 m3 n2 n3 (Err x) → MakesSearch d q old next m1 m3 n1 n3 (Err x)
  fails x made =
      let first = passes_begin r t fits in
      fails_here d q old now next m1 m2 m3 n1 n2 n3 stands.passes fit own_old own_now bytes stands.made t.start t.end fits first.0
      (sym (ap (λ (os : List (ℕ × ℕ)). stands.passes ++ os) first.1) ∙ stands.left.passes)
      (sym (ap (half_search r) stands.left.same) ∙ stands.left.half_search) x
      (subst (λ (u : Search). MakesScan d u now next m2 m3 n2 n3 (Err x)) stands.left.same made)

  module _ (f : Option HalfFound) (made : MakesScan d t now next m2 m3 n2 n3 (Ok f)) where
    one_more : HasMade d q old next m1 m3 n1 n3 behind
    one_more =
        makes_one d q old now next m1 m2 m3 n1 n2 n3 stands.passes fit own_old own_now bytes stands.made t.start t.end f
        (subst (λ (u : Search). MakesScan d u now next m2 m3 n2 n3 (Ok f)) stands.left.same made)

    told_is : answer f ≡ reported (first_answer r t)
    told_is = ok_is_told f (reported (first_answer r t))
        (λ (i : ℕ). GivesUpIn d next t.anchored t.earliest t.haystack (t.end - t.start) (first_pass r t).1 i) made.answer

    found_is : first_answer r t ≡ found (pair_of f)
    found_is = ok_is_found (first_answer r t) f told_is

    last_one : scans_of r t ≡ first_pass r t ∷ [] → behind ≡ scans_of r q
    last_one is = sym (ap (λ (os : List (ℕ × ℕ)). stands.passes ++ os) is) ∙ stands.left.passes

    whole_ends : first_splits r t ≡ false → MakesSearch d q old next m1 m3 n1 n3 (Ok f)
    whole_ends e =
        finishes d q old next m1 m3 n1 n3 f (told_is ∙ ap reported (sym (whole_scan r t fits e) ∙ stands.left.half_search)) behind
        (last_one (whole_once r t fits e)) one_more

    split_ends : scans_of r t ≡ first_pass r t ∷ [] → half_search r t ≡ found None → MakesSearch d q old next m1 m3 n1 n3 (Ok None)
    split_ends all none =
        finishes d q old next m1 m3 n1 n3 None (ap reported (sym none ∙ stands.left.half_search)) behind (last_one all) one_more

    pub none_ends : f ≡ None → MakesSearch d q old next m1 m3 n1 n3 (Ok None)
    none_ends is =
        subst (λ (o : Option HalfFound). MakesSearch d q old next m1 m3 n1 n3 (Ok o)) is
        (whole_ends (ap (splits (counts r.between_characters t.haystack)) (found_is ∙ ap (λ (o : Option HalfFound). found (pair_of o)) is)))

    module _ (half : HalfFound) (is : f ≡ Some half) where
      splits_by : (b : Bool) → counts r.between_characters t.haystack half.offset ≡ b → first_splits r t ≡ not b
      splits_by b e =
          ap (splits (counts r.between_characters t.haystack)) (found_is ∙ ap (λ (o : Option HalfFound). found (pair_of o)) is) ∙ ap not e

      pub counted_ends : counts r.between_characters t.haystack half.offset ≡ true → MakesSearch d q old next m1 m3 n1 n3 (Ok (Some half))
      counted_ends e =
          subst (λ (o : Option HalfFound). MakesSearch d q old next m1 m3 n1 n3 (Ok o)) is (whole_ends (splits_by true e))

      module _ (inside : counts r.between_characters t.haystack half.offset ≡ false) where
        pub anchored_ends : is_anchored t.anchored ≡ true → MakesSearch d q old next m1 m3 n1 n3 (Ok None)
        anchored_ends a = split_ends (anchored_once r t fits a) (anchored_scan r t fits a (splits_by false inside))

        pub lowest_ends : is_anchored t.anchored ≡ false → t.end ≡ 0 → MakesSearch d q old next m1 m3 n1 n3 (Ok None)
        lowest_ends a low =
            split_ends (lowest_once r t fits a (omega (arith, fits, low)))
            (lowest_scan r t fits a (omega (arith, fits, low)) (splits_by false inside))

        same_but_span : (is_reverse : Bool) → shorter is_reverse t ≡ with_span (shorter is_reverse t).start (shorter is_reverse t).end q
        same_but_span false = ap (with_span (t.start + 1) t.end) stands.left.same
        same_but_span true = ap (with_span t.start (t.end - 1)) stands.left.same

        goes_on : is_anchored t.anchored ≡ false → (is_reverse : Bool) → r.automaton.reverse ≡ is_reverse →
            (is_reverse ≡ true → 0 < t.end) → (u : Search) →
            u ≡ shorter is_reverse t → HasCome d q u old next m1 m3 n1 n3
        goes_on a is_reverse dir some u same = record {
          passes = behind;
          made = one_more;
          left = record {
            same = subst (λ (x : Search). x ≡ with_span x.start x.end q) (sym same) (same_but_span is_reverse);
            half_search = ap (half_search r) same ∙ sym (scan_anew r t a fits (splits_by false inside) is_reverse dir some) ∙
                stands.left.half_search;
            passes = append_assoc stands.passes (first_pass r t ∷ []) (scans_of r u)
                ∙ ap (λ (x : Search). stands.passes ++ first_pass r t ∷ scans_of r x) same
                ∙ sym (ap (λ (os : List (ℕ × ℕ)). stands.passes ++ os)
                (passes_anew r t a fits (splits_by false inside) is_reverse dir some))
                ∙ stands.left.passes;
          };
        }

        pub goes_forward : is_anchored t.anchored ≡ false → r.automaton.reverse ≡ false → (u : Search) →
            u ≡ with_span (t.start + 1) t.end t →
            HasCome d q u old next m1 m3 n1 n3
        goes_forward a up u same = goes_on a false up (λ never. absurd (true≢false (sym never))) u same

        pub goes_reverse : is_anchored t.anchored ≡ false → r.automaton.reverse ≡ true → 0 < t.end → (u : Search) →
            u ≡ with_span t.start (t.end - 1) t →
            HasCome d q u old next m1 m3 n1 n3
        goes_reverse a is_reverse some u same = goes_on a true is_reverse (λ is. some) u same

-- ---- one scan

module _ (d : Dfa) (q : Search) (old next : CacheValue) (m1 m2 n1 n2 : ℕ) (fit : IsDfa d) (own : IsCacheOf d old)
    (bytes : AreBytes q.haystack) (fits : q.start ≤ q.end) (each : (reader d).between_characters ≡ false) where
  -- if every end counts, a half search is its first scan
  pub once_ends : (result : Result (Option HalfFound) MatchErrorKind) → MakesScan d q old next m1 m2 n1 n2 result →
      MakesSearch d q old next m1 m2 n1 n2 result
  once_ends (Err x) made =
      fails d q q old old next m1 m1 m2 n1 n1 n2 fit own own bytes (begins d q q old m1 n1 refl) fits x made
  once_ends (Ok None) made =
      none_ends d q q old old next m1 m1 m2 n1 n1 n2 fit own own bytes (begins d q q old m1 n1 refl) fits None made refl
  once_ends (Ok (Some half)) made =
      counted_ends d q q old old next m1 m1 m2 n1 n1 n2 fit own own bytes (begins d q q old m1 n1 refl) fits (Some half) made half refl
      (each_counts (reader d).between_characters q.haystack half.offset each)
