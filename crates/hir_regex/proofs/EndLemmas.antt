-- From the ends that a half search finds to an answer: what it finds is known by what each offset offers. It is said for any two relations:
-- one says when an offset has nothing, the other which span is the best there. So it serves the answer of trees, and also the one that
-- leaves the preference of ends open.
use Rattle.std.proofs.Common.{◌≡◌, ℕ, zero, suc, ◌+◌, ◌-◌, ◌<◌, ◌≤◌, ◌⊎◌, Bool, true, false, List, [], ◌∷◌, length, slice_get, Option}
use Rattle.std.proofs.Common.{Some, None, All, refl, sym, ap, ◌∙◌, subst, inl, inr, arith}
use Rattle.std.proofs.lemmas.Bool.{cases_lt, lt-ltb}
use Rattle.std.proofs.lemmas.Option.{slice_get_within, get_or_from_slice_get}
use Rattle.std.proofs.lemmas.List.Elements.{All-get_or}
use Rattle.search_core.specs.Utf8.{IsValidText}
use Rattle.hir_core.specs.Tree.{Tree, empty}
use Rattle.hir_core.specs.Facts.{is_utf8_tree}
use Rattle.hir_core.proofs.ForCallers.{span_forward, span_start_bounded, span_end_bounded}
use Rattle.search_types.specs.declared.anchored.Anchored.{Anchored}
use Rattle.search_types.specs.declared.anchored.Anchored.TheVariants.{No, Yes, Pattern}
use Rattle.search_types.specs.Modes.{is_anchored, may_start, last_start, allowed}
use Rattle.search_types.specs.Places.{counts}
use Rattle.search_types.specs.FirstFound.{IsFirstOffer}
use Rattle.search_types.proofs.ForCallers.{starts_at, may_start_at}
use Rattle.hir_regex.specs.Choices.{Query}
use Rattle.hir_regex.specs.LooseAnswers.{MeansSpan, IsFindable, IsCounted}

pub listed_has : (P : Tree → Type 0) (xs : List Tree) → All P xs → (p : ℕ) (x : Tree) → slice_get xs p ≡ Some x → P x
listed_has P xs all p x listed = subst P (get_or_from_slice_get xs p x empty listed)
    (All-get_or P xs p empty (slice_get_within xs p x listed) all)

-- the premises on the patterns and the haystack
pub record Fits (q : Query) : Type 0 where
  pub within : q.end ≤ length q.haystack
  pub valid : q.utf8 ≡ true → IsValidText q.haystack
  pub utf8_trees : q.utf8 ≡ true → All (λ x. is_utf8_tree x ≡ true) q.patterns

-- a span that is offered
pub record IsMet (q : Query) (i p j : ℕ) : Type 0 where
  pub span : MeansSpan q p i j
  pub within : j ≤ q.end

-- What is known of the offers of each offset up to the end. If there is none, the offset has nothing. The first is a span, and the best one
-- if it counts. An offset that doesn't count has nothing, and one that has nothing has no span that counts.
pub record ReportsFaultOf (q : Query) (offers : ℕ → List (ℕ × ℕ)) (Nothing : ℕ → Type 0) (Best : ℕ → ℕ → ℕ → Type 0) : Type 0 where
  pub none : (i : ℕ) → i ≤ q.end → offers i ≡ [] → Nothing i
  pub met : (i j p : ℕ) (others : List (ℕ × ℕ)) → i ≤ q.end → offers i ≡ (j, p) ∷ others → IsMet q i p j
  pub best : (i j p : ℕ) (others : List (ℕ × ℕ)) → i ≤ q.end → counts q.utf8 q.haystack i ≡ true → counts q.utf8 q.haystack j ≡ true →
      offers i ≡ (j, p) ∷ others → Best i p j
  pub uncounted : (i : ℕ) → counts q.utf8 q.haystack i ≡ false → Nothing i
  pub missed : (i p j : ℕ) → i ≤ q.end → IsCounted q i p j → Nothing i → ⊥

-- the best span of the least offset that has one, with this end and pattern
pub record IsBestFrom (q : Query) (Nothing : ℕ → Type 0) (Best : ℕ → ℕ → ℕ → Type 0) (s : ℕ) (c : ℕ × ℕ) : Type 0 where
  pub place : ℕ
  pub starts : may_start q.mode s q.end place ≡ true
  pub span : MeansSpan q c.1 place c.0
  pub forward : place ≤ c.0
  pub within : c.0 ≤ q.end
  pub start_counts : counts q.utf8 q.haystack place ≡ true
  pub best : Best place c.1 c.0
  pub none_before : (k : ℕ) → may_start q.mode s q.end k ≡ true → k < place → Nothing k

abbrev pub HasEnd : (q : Query) (Nothing : ℕ → Type 0) (Best : ℕ → ℕ → ℕ → Type 0) (s : ℕ) → Option (ℕ × ℕ) → Type 0
HasEnd q Nothing Best s None = (k : ℕ) → may_start q.mode s q.end k ≡ true → Nothing k
HasEnd q Nothing Best s (Some c) = IsBestFrom q Nothing Best s c

-- ---- modes
pub last_within : (mode : Anchored) (s e : ℕ) → s ≤ e → (s ≤ last_start mode s e) × (last_start mode s e ≤ e)
last_within No s e l = (l, omega arith)
last_within Yes s e l = (omega arith, l)
last_within (Pattern p) s e l = (omega arith, l)

pub unanchored_no : (mode : Anchored) → is_anchored mode ≡ false → mode ≡ No
unanchored_no No a = refl
unanchored_no Yes a = cc
unanchored_no (Pattern p) a = cc

pub one_start : (mode : Anchored) (s e : ℕ) → is_anchored mode ≡ true → last_start mode s e ≡ s
one_start No s e a = cc
one_start Yes s e a = refl
one_start (Pattern p) s e a = refl

any_allowed : (mode : Anchored) (p n : ℕ) → mode ≡ No → p < n → allowed mode n p ≡ true
any_allowed No p n m l = lt-ltb p n l
any_allowed Yes p n m l = cc
any_allowed (Pattern k) p n m l = cc

-- ---- where spans count
module _ (q : Query) (fits : Fits q) where
  utf8_counts : (b : Bool) → b ≡ q.utf8 → (p i j : ℕ) → MeansSpan q p i j → i < j → j ≤ q.end →
      (counts b q.haystack i ≡ true) × (counts b q.haystack j ≡ true)
  utf8_counts false e p i j m l within = (refl, refl)
  utf8_counts true e p i j m l within =
      let valid = fits.valid (sym e) in
      let utf8 : is_utf8_tree m.tree ≡ true = listed_has (λ x. is_utf8_tree x ≡ true) q.patterns
      (fits.utf8_trees (sym e)) p m.tree m.listed in
      let inside : j ≤ length q.haystack = omega (arith, within, fits.within) in (
        span_start_bounded q.looks q.haystack m.tree i j valid utf8 m.means l inside,
        span_end_bounded q.looks q.haystack m.tree i j valid utf8 m.means l inside,
      )

  pub span_counts : (p i j : ℕ) → MeansSpan q p i j → i < j → j ≤ q.end →
      (counts q.utf8 q.haystack i ≡ true) × (counts q.utf8 q.haystack j ≡ true)
  span_counts p i j m l within = utf8_counts q.utf8 refl p i j m l within

  -- no tree has an empty span, or each offset counts
  abbrev pub AllCount : Type 0
  AllCount = (q.utf8 ≡ false) ⊎ ((p i : ℕ) → MeansSpan q p i i → ⊥)

module _ (q : Query) (fits : Fits q) (offers : ℕ → List (ℕ × ℕ)) (Nothing : ℕ → Type 0) (Best : ℕ → ℕ → ℕ → Type 0)
    (reports : ReportsFaultOf q offers Nothing Best) where
  abbrev counted : ℕ → Bool
  counted j = counts q.utf8 q.haystack j

  -- with these offers of the offsets from s on
  abbrev pub Firsts : ℕ → Option (ℕ × ℕ) → Type 0
  Firsts s o = IsFirstOffer offers s (suc (last_start q.mode s q.end) - s) o

  abbrev pub Ends : ℕ → Option (ℕ × ℕ) → Type 0
  Ends s o = HasEnd q Nothing Best s o

  none_ends : (s : ℕ) → s ≤ q.end → Firsts s None → Ends s None
  none_ends s l none = λ i starts.
      let at = starts_at q.mode s q.end i starts in
      let last = last_within q.mode s q.end l in
      let low = at.from_s in let high = at.to_last in
      reports.none i (omega (arith, last.1)) (none i low (omega (arith, last.0)))

  module _ (s : ℕ) (l : s ≤ q.end) (c : ℕ × ℕ) (at : Firsts s (Some c)) where
    abbrev last : (s ≤ last_start q.mode s q.end) × (last_start q.mode s q.end ≤ q.end)
    last = last_within q.mode s q.end l

    inside : at.place ≤ last_start q.mode s q.end
    inside = let high = at.below in omega (arith, last.0)

    within : at.place ≤ q.end
    within = omega (arith, inside, last.1)

    the_span : IsMet q at.place c.1 c.0
    the_span = reports.met at.place c.0 c.1 at.others within at.here

    forward : at.place ≤ c.0
    forward = let m = the_span in span_forward q.looks q.haystack m.span.tree at.place c.0 m.span.means

    none_before_it : (i : ℕ) → s ≤ i → i < at.place → Nothing i
    none_before_it i low high = reports.none i (omega (arith, within)) (at.none_before i low high)

    -- an end that counts
    start_counts : counted c.0 ≡ true → counted at.place ≡ true
    start_counts t = let m = the_span in elim (cases_lt at.place c.0) [
      | inl lt ↦ (span_counts q fits c.1 at.place c.0 m.span lt m.within).0
      | inr ge ↦ let f = forward in let same : c.0 ≡ at.place = omega arith in ap (counts q.utf8 q.haystack) (sym same) ∙ t
    ]

    some_ends : counted c.0 ≡ true → Ends s (Some c)
    some_ends t = let m = the_span in record {
      place = at.place;
      starts = may_start_at q.mode s q.end at.place l at.from inside;
      span = m.span;
      forward = forward;
      within = m.within;
      start_counts = start_counts t;
      best = reports.best at.place c.0 c.1 at.others within (start_counts t) t at.here;
      none_before = λ i starts below. none_before_it i (starts_at q.mode s q.end i starts).from_s below;
    }

    -- an end that is split is that of an empty span, and no offset up to it has anything
    split_empty : counted c.0 ≡ false → at.place ≡ c.0
    split_empty f = let m = the_span in elim (cases_lt at.place c.0) [
      | inl lt ↦ let t = (span_counts q fits c.1 at.place c.0 m.span lt m.within).1 in let differ : true ≡ false = sym t ∙ f in cc
      | inr ge ↦ let up = forward in omega arith
    ]

    split_none : counted c.0 ≡ false → Nothing s
    split_none f = let from = at.from in elim (cases_lt s at.place) [
      | inl lt ↦ none_before_it s (omega arith) lt
      | inr ge ↦ let here : c.0 ≡ s = (let e = split_empty f in omega arith) in
          reports.uncounted s (ap (counts q.utf8 q.haystack) (sym here) ∙ f)
    ]

    whole_counts : AllCount q fits → counted c.0 ≡ true
    whole_counts (inl off) = ap (λ b. counts b q.haystack c.0) off
    whole_counts (inr none) =
        let m = the_span in
        elim (cases_lt at.place c.0) [
          | inl lt ↦ (span_counts q fits c.1 at.place c.0 m.span lt m.within).1
          | inr ge ↦ let up = forward in let same : c.0 ≡ at.place = omega arith in
              let P : ℕ → Type 0 = λ j. MeansSpan q c.1 at.place j in absurd (none c.1 at.place (subst P same m.span))
        ]

  pub no_place : (s : ℕ) → q.end < s → Ends s None
  no_place s past = λ i starts. let at = starts_at q.mode s q.end i starts in let f = at.forward in absurd (omega arith)

  -- ---- a search from one offset further
  one_further : (mode : Anchored) (s i : ℕ) → mode ≡ No → s ≤ q.end → may_start mode s q.end i ≡ true →
      (s ≡ i) ⊎ (may_start mode (s + 1) q.end i ≡ true)
  one_further No s i m l starts =
      let at = starts_at No s q.end i starts in
      let low = at.from_s in let high = at.to_last in
      elim (cases_lt s i) [ inl lt ↦ inr (may_start_at No (s + 1) q.end i (omega arith) (omega arith) high) | inr ge ↦ inl (omega arith) ]
  one_further Yes s i m l starts = cc
  one_further (Pattern p) s i m l starts = cc

  nothing_there : (s i : ℕ) → Nothing s → s ≡ i → Nothing i
  nothing_there s i none e = subst Nothing e none

  same_last : (mode : Anchored) (s : ℕ) → mode ≡ No → last_start mode (s + 1) q.end ≡ last_start mode s q.end
  same_last No s m = refl
  same_last Yes s m = cc
  same_last (Pattern p) s m = cc

  sooner : (s : ℕ) (o : Option (ℕ × ℕ)) → q.mode ≡ No → s ≤ q.end → Nothing s → Ends (s + 1) o → Ends s o
  sooner s None m l none a = λ i starts. elim (one_further q.mode s i m l starts) [
    | inl here ↦ nothing_there s i none here
    | inr later ↦ a i later
  ]
  sooner s (Some c) m l none a = record {
    place = a.place;
    starts = (let at = starts_at q.mode (s + 1) q.end a.place a.starts in
        let low = at.from_s in let high = at.to_last in
        may_start_at q.mode s q.end a.place l (omega arith) (omega (arith, high, same_last q.mode s m)));
    span = a.span;
    forward = a.forward;
    within = a.within;
    start_counts = a.start_counts;
    best = a.best;
    none_before = λ i starts below. elim (one_further q.mode s i m l starts) [
      | inl here ↦ nothing_there s i none here
      | inr later ↦ a.none_before i later below
    ];
  }

  -- what is found first from the offset has an end that doesn't count
  abbrev pub IsSplitAt : ℕ → Type 0
  IsSplitAt i = (c : ℕ × ℕ) × Firsts i (Some c) × (counts q.utf8 q.haystack c.0 ≡ false)

  -- past offsets from which an end is found that doesn't count
  past_splits : (n s at : ℕ) (o : Option (ℕ × ℕ)) → at ≡ s + n → at ≤ q.end + 1 → (0 < n → q.mode ≡ No) →
      ((i : ℕ) → s ≤ i → i < at → IsSplitAt i) →
      Ends at o → Ends s o
  past_splits zero s at o is high free split ends =
      let same : at ≡ s = omega arith in
      let P : ℕ → Type 0 = λ k. Ends k o in subst P same ends
  past_splits (suc n) s at o is high free split ends =
      let l : s ≤ q.end = omega arith in
      let here = split s (omega arith) (omega arith) in
      sooner s o (free (omega arith)) l (split_none s l here.0 here.1 here.2)
      (past_splits n (s + 1) at o (omega arith) high (λ some. free (omega arith)) (λ i low below. split i (omega arith) below) ends)

  counted_ends : (s : ℕ) → s ≤ q.end → (o : Option (ℕ × ℕ)) → Firsts s o → ((c : ℕ × ℕ) → o ≡ Some c → counted c.0 ≡ true) → Ends s o
  counted_ends s l None at all = none_ends s l at
  counted_ends s l (Some c) at all = some_ends s l c at (all c refl)

  -- the first end that counts of searches each from one offset further
  pub ends_past : (n s at : ℕ) (o : Option (ℕ × ℕ)) → at ≡ s + n → at ≤ q.end → (0 < n → q.mode ≡ No) →
      ((i : ℕ) → s ≤ i → i < at → IsSplitAt i) →
      Firsts at o → ((c : ℕ × ℕ) → o ≡ Some c → counted c.0 ≡ true) → Ends s o
  ends_past n s at o is high free split firsts all =
      past_splits n s at o is (omega arith) free split (counted_ends at high o firsts all)

  -- no end of them counts
  pub none_past : (s : ℕ) → s ≤ q.end → q.mode ≡ No → ((i : ℕ) → s ≤ i → i ≤ q.end → IsSplitAt i) → Ends s None
  none_past s l free split =
      past_splits (q.end + 1 - s) s (q.end + 1) None (omega arith) (omega arith) (λ some. free) (λ i low below. split i low (omega arith))
      (no_place (q.end + 1) (omega arith))

  -- an anchored search begins once
  pub anchored_split : (s : ℕ) → s ≤ q.end → is_anchored q.mode ≡ true → IsSplitAt s → Ends s None
  anchored_split s l a split = λ i starts.
      let at = starts_at q.mode s q.end i starts in
      let low = at.from_s in let high = at.to_last in
      nothing_there s i (split_none s l split.0 split.1 split.2) (omega (arith, one_start q.mode s q.end a))

  -- if each end counts, there is no need to restart
  pub whole_ends : AllCount q fits → (s : ℕ) → s ≤ q.end → (o : Option (ℕ × ℕ)) → Firsts s o → Ends s o
  whole_ends all s l None at = none_ends s l at
  whole_ends all s l (Some c) at = some_ends s l c at (whole_counts s l c at all)

  -- a search that may start anywhere starts at the least offset from which a pattern has a span that ends there
  pub start_is_least : (s : ℕ) (c : ℕ × ℕ) → q.mode ≡ No → (a : IsBestFrom q Nothing Best s c) → (k p : ℕ) → s ≤ k → MeansSpan q p k c.0 →
      a.place ≤ k
  start_is_least s c m a k p low span = elim (cases_lt k a.place) [
    | inl lt ↦
        let at = starts_at q.mode s q.end a.place a.starts in
        let high = at.to_last in let up = a.forward in let within = a.within in
        let last = (last_within q.mode s q.end at.forward).1 in
        let findable : IsFindable q k p c.0 = record {
          may = any_allowed q.mode p (length q.patterns) m (slice_get_within q.patterns p span.tree span.listed);
          span = span;
          within = within;
        } in
        let ends = span_counts q fits p k c.0 span (omega arith) within in
        let starts : may_start q.mode s q.end k ≡ true = may_start_at q.mode s q.end k at.forward low (omega arith) in
        absurd (reports.missed k p c.0 (omega arith) (record { findable = findable; start_counts = ends.0; end_counts = ends.1 })
        (a.none_before k starts lt))
    | inr ge ↦ ge
  ]
