-- Which of several patterns match: those of which an overlapping search over all ends reports one.
use Rattle.std.proofs.Common.{◌≡◌, ◌↔◌, ◌⊎◌, ℕ, zero, suc, ◌<◌, ◌≤◌, ◌||◌, Bool, true, false, List, [], ◌∷◌, length, map, replicate, Option}
use Rattle.std.proofs.Common.{Some, None, Ok, slice_get}
use Rattle.std.proofs.Common.{if◌then◌else◌, is_some, refl, sym, ap, ◌∙◌, subst, arith, inl, inr, ⊎_elim, lt-ltb, true≢false}
use Rattle.std.proofs.lemmas.Bool.{cases_lt}
use Rattle.std.proofs.lemmas.List.{length-map}
use Rattle.std.proofs.lemmas.Option.{none-some, same_Some}
use Rattle.regex_hir.specs.Re.{Re, Trace, accept, attempt}
use Rattle.regex_hir.specs.Matches.{Matches}
use Rattle.regex_hir.specs.Find.{Match, first_between}
use Rattle.regex_hir.proofs.AttemptLemmas.{attempt_sound, attempt_complete}
use Rattle.regex_hir.proofs.OptionLemmas.{value_of_IsSome}
use Rattle.regex_hir.proofs.FindLemmas.{IsFirst-of_first_between, none_of_first_between}
use Rattle.search_core.specs.ByteSets.{has}
use Rattle.search_types.specs.declared.anchored.Anchored.TheVariants.{No}
use Rattle.search_types.specs.declared.match_error.MatchErrorKind.{MatchErrorKind}
use Rattle.search_types.specs.Inputs.{Search}
use Rattle.search_types.specs.Places.{counts}
use Rattle.search_types.proofs.ForCallers.{starts_at, may_start_at}
use Rattle.std.specs.Cmp.{both_ways}
use Rattle.hir_core.specs.Tree.{Tree}
use Rattle.hir_core.specs.Means.{Means}
use Rattle.hir_core.specs.Facts.{is_utf8_tree}
use Rattle.hir_core.proofs.ForCallers.{span_forward, span_within, span_start_bounded}
use Rattle.lazy_dfa.specs.Caches.{CacheValue}
use Rattle.lazy_dfa.specs.Dfas.{Dfa}
use Rattle.lazy_dfa.specs.OverlappingAnswers.{with_pattern, is_full, which_from, AnswersWhich}
use Rattle.lazy_dfa.proofs.ForCallers.{room_kept}
use Rattle.hir_regex.specs.Regexes.{IsSearchOf}
use Rattle.hir_regex.specs.OverlappingTrees.{IsReportedEnd}
use Rattle.pattern_text.specs.SameEnds.{pattern_looks, AreSameSpans}
use Rattle.pattern_search.specs.Searches.{whole_search, whole_query, found_from, which_match}
use Rattle.pattern_search.proofs.BoundaryLemmas.{may_begin, same_begin, span_counts}
use Rattle.pattern_search.proofs.FindLemmas.{tried, found_is}
use Rattle.pattern_search.proofs.StartLemmas.{tree_at, pattern_at, holds_of}

-- ---- a set has as many tests as before
kept_from : (e : Bool) (s : List Bool) (ends : List (ℕ × ℕ)) (rejection : Option MatchErrorKind) →
    length (which_from e s ends rejection).set ≡ length s
kept_from e s [] rejection = refl
kept_from e s (x ∷ xs) rejection = by (e || is_full (with_pattern s x.1)) (kept_from e (with_pattern s x.1) xs rejection)
  where
    by : (b : Bool) → length (which_from e (with_pattern s x.1) xs rejection).set ≡ length (with_pattern s x.1) →
        length (if b then (record { set = with_pattern s x.1; rejection = None }) else which_from e (with_pattern s x.1) xs rejection).set ≡
        length s
    by true rest = room_kept s (x ∷ [])
    by false rest = rest ∙ room_kept s (x ∷ [])

pub room_of : (d : Dfa) (v : CacheValue) (q : Search) (old new : List Bool) → AnswersWhich d v q old new (Ok tt) → length new ≡ length old
room_of d v q old new (inl reported) = ap length reported.1 ∙ kept_from q.earliest old _ _
room_of d v q old new (inr (k, _, set, inl lacked)) = cc
room_of d v q old new (inr (k, _, set, inr (x, gave_up, on_its_way, where_it_was))) = cc

-- ---- one pattern
module _ (utf8 : Bool) (a : Re) (h : List ℕ) where
  -- a match from where one may begin is found
  some_found : (i j : ℕ) → i ≤ length h → may_begin utf8 h i ≡ true → Matches h a i j → is_some (found_from utf8 a h 0) ≡ true
  some_found i j within begins m = by (first_between (tried utf8 h a) 0 (length h)) (found_is utf8 a h 0)
    where
      none : first_between (tried utf8 h a) 0 (length h) ≡ None → ⊥
      none is =
          let value = value_of_IsSome (attempt h a accept i) (attempt_complete h a accept i j m refl) in
          let here : tried utf8 h a i ≡ attempt h a accept i = ap (λ b. if b then attempt h a accept i else None) begins in
          none-some value.0 (sym (none_of_first_between (tried utf8 h a) 0 (length h) is i (omega arith) within) ∙ here ∙ value.1)

      by : (o : Option Match) → found_from utf8 a h 0 ≡ o → is_some (found_from utf8 a h 0) ≡ true
      by None is = absurd (none (sym (found_is utf8 a h 0) ∙ is))
      by (Some m) is = ap is_some is

  begun : (i : ℕ) (t : Trace) → i ≤ length h → (b : Bool) → may_begin utf8 h i ≡ b → (if b then attempt h a accept i else None) ≡ Some t →
      (i : ℕ) × (j : ℕ) × (i ≤ length h) × (may_begin utf8 h i ≡ true) × Matches h a i j
  begun i t within false is found = absurd (none-some t found)
  begun i t within true is found = let way = attempt_sound h a accept i t found in (i, way.at, within, is, way.leads)

  -- what is found is a match from where one may begin
  found_match : is_some (found_from utf8 a h 0) ≡ true →
      (i : ℕ) × (j : ℕ) × (i ≤ length h) × (may_begin utf8 h i ≡ true) × Matches h a i j
  found_match some = by (first_between (tried utf8 h a) 0 (length h)) refl
    where
      by : (o : Option Match) → first_between (tried utf8 h a) 0 (length h) ≡ o →
          (i : ℕ) × (j : ℕ) × (i ≤ length h) × (may_begin utf8 h i ≡ true) × Matches h a i j
      by None is = absurd (true≢false (sym some ∙ ap is_some (found_is utf8 a h 0 ∙ is)))
      by (Some m) is =
          let first = IsFirst-of_first_between (tried utf8 h a) 0 (length h) m is in
          begun m.start m.trace first.to (may_begin utf8 h m.start) refl first.here

-- ---- a pattern and its tree
module _ (utf8 : Bool) (res : List Re) (xs : List Tree) (same : AreSameSpans res xs) (h : List ℕ)
    (search : IsSearchOf xs utf8 (whole_search h 0)) where
  -- an end of a span of this pattern is reported
  abbrev IsTold : ℕ → Type 0
  IsTold p = (j : ℕ) × IsReportedEnd (whole_query utf8 xs h) 0 j p

  -- a span whose end counts has a start that counts
  start_counts : (x : Tree) (i j : ℕ) → (utf8 ≡ true → is_utf8_tree x ≡ true) → i ≤ length h → counts utf8 h j ≡ true →
      Means (pattern_looks h) h x i j →
      (b : Bool) → utf8 ≡ b → counts b h i ≡ true
  start_counts x i j text within ends m false is = refl
  start_counts x i j text within ends m true is = elim (cases_lt i j) [
    | inl less ↦ span_start_bounded (pattern_looks h) h x i j (search.valid is) (text is) m less
        (span_within (pattern_looks h) h x i j within m)
    | inr above ↦
        let forward = span_forward (pattern_looks h) h x i j m in
        let here : j ≡ i = omega (arith, above, forward) in
        subst (λ k. counts true h k ≡ true) here (subst (λ c. counts c h j ≡ true) is ends)
  ]

  told_found : (p : ℕ) (a : Re) → slice_get res p ≡ Some a → IsTold p → is_some (found_from utf8 a h 0) ≡ true
  told_found p a listed reported =
      let t = reported.1 in
      let span = t.findable.span in
      let within = (starts_at No 0 (length h) t.start t.starts).to_last in
      let b = pattern_at res xs same p span.tree span.listed in
      let starts = start_counts span.tree t.start reported.0
      (λ on. holds_of xs p span.tree span.listed (search.utf8_trees on)) within t.counted span.means utf8 refl in
      subst (λ r. is_some (found_from utf8 r h 0) ≡ true) (same_Some b.0 a (sym b.1 ∙ listed))
      (some_found utf8 b.0 h t.start reported.0 within (same_begin utf8 h t.start within ∙ starts)
      ((b.2.at h search.bytes t.start reported.0 within).1 span.means))

  found_told : (p : ℕ) (a : Re) → p < length xs → slice_get res p ≡ Some a → is_some (found_from utf8 a h 0) ≡ true → IsTold p
  found_told p a below listed some =
      let m = found_match utf8 a h some in
      let t = tree_at res xs same p a listed in
      let means = (t.2.at h search.bytes m.0 m.1 m.2).0 m.4 in
      let starts : counts utf8 h m.0 ≡ true = sym (same_begin utf8 h m.0 m.2) ∙ m.3 in (
        m.1,
        record {
          start = m.0;
          starts = may_start_at No 0 (length h) m.0 (omega arith) (omega arith) m.2;
          findable = record {
            may = lt-ltb p (length xs) below;
            span = record { tree = t.0; listed = t.1; means = means };
            within = span_within (pattern_looks h) h t.0 m.0 m.1 m.2 means;
          };
          counted = span_counts utf8 xs h 0 search t.0 m.0 m.1 (λ on. holds_of xs p t.0 t.1 (search.utf8_trees on)) m.2 starts means;
        },
      )

-- ---- lists of tests
same_tests : (xs ys : List Bool) → length xs ≡ length ys → ((p : ℕ) → p < length ys → has xs p ≡ has ys p) → xs ≡ ys
same_tests [] [] e each = refl
same_tests [] (y ∷ ys) e each = absurd (omega (arith, e))
same_tests (x ∷ xs) [] e each = absurd (omega (arith, e))
same_tests (x ∷ xs) (y ∷ ys) e each =
    let rest : xs ≡ ys = same_tests xs ys (omega (arith, e)) (λ p below. each (suc p) (omega (arith, below))) in
    ap (λ b. b ∷ xs) (each 0 (omega arith)) ∙ ap (λ bs. y ∷ bs) rest

nothing_in : (n p : ℕ) → has (replicate n false) p ≡ true → ⊥
nothing_in zero p is = absurd (true≢false (sym is))
nothing_in (suc n) zero is = absurd (true≢false (sym is))
nothing_in (suc n) (suc p) is = nothing_in n p is

room_for : (n : ℕ) → length (replicate n false) ≡ n
room_for zero = refl
room_for (suc n) = ap suc (room_for n)

mapped : {A : Type 0} (f : A → Bool) (ys : List A) (p : ℕ) → p < length ys → (a : A) × (slice_get ys p ≡ Some a) × (has (map f ys) p ≡ f a)
mapped f [] p below = absurd (omega (arith, below))
mapped f (a ∷ ys) zero below = (a, refl, refl)
mapped f (a ∷ ys) (suc p) below = mapped f ys p (omega (arith, below))

pub as_many : (res : List Re) (xs : List Tree) → AreSameSpans res xs → length res ≡ length xs
as_many [] [] same = refl
as_many [] (x ∷ xs) same = absurd same
as_many (a ∷ res) [] same = absurd same
as_many (a ∷ res) (x ∷ xs) same = ap suc (as_many res xs same.1)

-- what is added to an empty set are the patterns that match
module _ (utf8 : Bool) (res : List Re) (xs : List Tree) (same : AreSameSpans res xs) (h : List ℕ)
    (search : IsSearchOf xs utf8 (whole_search h 0)) where
  pub which_is : (new : List Bool) → length new ≡ length (replicate (length xs) false) →
      ((p : ℕ) → (has new p ≡ true) ↔ ((has (replicate (length xs) false) p ≡ true) ⊎
      ((p < length (replicate (length xs) false)) × ((j : ℕ) × IsReportedEnd (whole_query utf8 xs h) 0 j p)))) →
      new ≡ which_match utf8 res h
  which_is new room adds = same_tests new (which_match utf8 res h) rooms (λ p below. at p below)
    where
      many : length (which_match utf8 res h) ≡ length xs
      many = length-map res (λ re. is_some (found_from utf8 re h 0)) ∙ as_many res xs same

      rooms : length new ≡ length (which_match utf8 res h)
      rooms = room ∙ room_for (length xs) ∙ sym many

      at : (p : ℕ) → p < length (which_match utf8 res h) → has new p ≡ has (which_match utf8 res h) p
      at p below =
          let inside : p < length xs = omega (arith, below, many) in
          let reported = mapped (λ re. is_some (found_from utf8 re h 0)) res p (omega (arith, inside, as_many res xs same)) in
          both_ways (has new p) (has (which_match utf8 res h) p)
          (λ there. reported.2 ∙ ⊎_elim
          (λ (was : has (replicate (length xs) false) p ≡ true). absurd (nothing_in (length xs) p was))
          (λ (come : (p < length (replicate (length xs) false)) × ((j : ℕ) × IsReportedEnd (whole_query utf8 xs h) 0 j p)).
          told_found utf8 res xs same h search p reported.0 reported.1 come.1)
          ((adds p).0 there))
          (λ there. (adds p).1 (inr (
            omega (arith, inside, room_for (length xs)),
            found_told utf8 res xs same h search p reported.0 inside reported.1 (sym reported.2 ∙ there),
          )))
