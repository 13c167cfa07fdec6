-- From what the patterns offer in the bytes up to the end to the choices of which those that count are kept. If the body of every unbounded
-- repetition consumes at least one byte, these offers determine the answer of the trees.
use Rattle.std.proofs.Common.{◌≡◌, ◌≢◌, ℕ, suc, ◌+◌, ◌<◌, ◌≤◌, Bool, true, false, cond, ◌==◌, List, [], ◌∷◌, map, length, take, get_or}
use Rattle.std.proofs.Common.{slice_get, Option, Some, None, All, nat_le, nat_lt, refl, sym, ap, ◌∙◌, inl, inr, arith, le-leb, eq-eqb}
use Rattle.std.specs.List.{filter}
use Rattle.std.proofs.lemmas.Bool.{and_parts, cases_lt, lt-ltb, and_from}
use Rattle.std.proofs.lemmas.Bool.Decides.{Decides-eqb}
use Rattle.std.proofs.lemmas.Option.{slice_get_within, slice_get-get_or}
use Rattle.hir_core.specs.Tree.{Tree, empty}
use Rattle.hir_core.specs.PreferredEnds.{preferred_ends, Has}
use Rattle.hir_core.specs.Facts.{LoopsRead}
use Rattle.hir_core.proofs.ForCallers.{cut_to_whole, preferred_ends_sound, preferred_ends_complete}
use Rattle.search_types.specs.declared.anchored.Anchored.{Anchored}
use Rattle.search_types.specs.declared.anchored.Anchored.TheVariants.{No, Yes, Pattern}
use Rattle.search_types.specs.Modes.{allowed}
use Rattle.search_types.specs.Places.{counts}
use Rattle.search_types.specs.LeftmostAnswer.{first_choice}
use Rattle.hir_regex.specs.Choices.{Query, choices, pattern_ends, may_end, choices_at}
use Rattle.hir_regex.specs.LooseAnswers.{MeansSpan}
use Rattle.hir_regex.proofs.EndLemmas.{Fits, IsMet, ReportsFaultOf, listed_has}
use Rattle.hir_regex.proofs.OfferLemmas.{offered, pattern_offers, mode_offers, AllRead, none_offered, some_offered, one_alone, alone_none}
use Rattle.hir_regex.proofs.OfferLemmas.{alone_some, span_is_choice, silent, offer_ends, paired, end_of, number_of}

all_read : (xs : List Tree) → ((p : ℕ) (x : Tree) → slice_get xs p ≡ Some x → LoopsRead x) → AllRead xs
all_read [] r = tt
all_read (x ∷ xs) r = (r 0 x refl, all_read xs (λ p y e. r (suc p) y e))

-- whether the mode names a pattern
abbrev is_named : Anchored → Bool
is_named No = false
is_named Yes = false
is_named (Pattern p) = true

none_paired : (p : ℕ) (l : List ℕ) → paired p l ≡ [] → l ≡ []
none_paired p [] e = refl
none_paired p (j ∷ l) e = cc

one_paired : (p n j : ℕ) (l : List ℕ) (others : List (ℕ × ℕ)) → map (λ m. (m, p)) l ≡ (j, n) ∷ others → (p ≡ n) × Has l j
one_paired p n j [] others e = cc
one_paired p n j (k ∷ l) others e = (ap number_of e, inl (ap end_of e))

true_or : (b : Bool) → (b ≡ true → ⊥) → b ≡ false
true_or true no_way = absurd (no_way refl)
true_or false no_way = refl

-- an offset has no choice, and this is its first one
abbrev pub HasNoChoice : Query → ℕ → Type 0
HasNoChoice q i = choices_at q i ≡ []

abbrev pub IsFirstChoice : Query → ℕ → ℕ → ℕ → Type 0
IsFirstChoice q i p j = first_choice i (choices_at q i) ≡ Some (record { pattern = p; start = i; end = j })

module _ (q : Query) (fits : Fits q) (loops : All LoopsRead q.patterns) where
  reads : (p : ℕ) (x : Tree) → slice_get q.patterns p ≡ Some x → LoopsRead x
  reads p x listed = listed_has LoopsRead q.patterns loops p x listed

  abbrev pub offers : ℕ → List (ℕ × ℕ)
  offers i = mode_offers q.looks (take q.end q.haystack) q.patterns q.mode i

  abbrev pub counted : ℕ → Bool
  counted j = counts q.utf8 q.haystack j

  abbrev pub at_place : ℕ → List (ℕ × ℕ)
  at_place i = choices (allowed q.mode (length q.patterns)) (may_end q) 0 (pattern_ends q i)

  -- an offset that doesn't count has no choice
  pub uncounted : (i : ℕ) → counted i ≡ false → choices_at q i ≡ []
  uncounted i e = ap (λ b. cond b (at_place i) []) e

  none_if : (i : ℕ) → at_place i ≡ [] → (b : Bool) → cond b (at_place i) [] ≡ []
  none_if i e true = e
  none_if i e false = refl

  allowed_all : (mode : Anchored) (n k : ℕ) → is_named mode ≡ false → k < n → allowed mode n k ≡ true
  allowed_all No n k a l = lt-ltb k n l
  allowed_all Yes n k a l = lt-ltb k n l
  allowed_all (Pattern p) n k a l = cc

  allowed_named : (p n k : ℕ) → p < n → k ≡ p → allowed (Pattern p) n k ≡ true
  allowed_named p n k l e = and_from (nat_lt k n) (k == p) (lt-ltb k n (omega arith)) (eq-eqb k p e)

  allowed_other : (p n k : ℕ) → k ≢ p → allowed (Pattern p) n k ≡ false
  allowed_other p n k differ = true_or (allowed (Pattern p) n k) (λ t. differ ((Decides-eqb k p).0 (and_parts (nat_lt k n) (k == p) t).1))

  none_past : (p : ℕ) → slice_get q.patterns p ≡ None → length q.patterns ≤ p
  none_past p e = elim (cases_lt p (length q.patterns)) [
    | inl lt ↦ let some = slice_get-get_or q.patterns p empty lt in let differ : None ≡ Some (get_or q.patterns p empty) =
        sym e ∙ some in cc
    | inr ge ↦ ge
  ]

  one_named : (i p : ℕ) (x : Tree) → slice_get q.patterns p ≡ Some x → i ≤ q.end →
      choices (allowed (Pattern p) (length q.patterns)) (may_end q) 0 (pattern_ends q i) ≡ map (λ j. (p, j))
      (filter (may_end q) (preferred_ends q.looks q.haystack x i))
  one_named i p x at inside =
      one_alone (allowed (Pattern p) (length q.patterns)) counted q.looks q.haystack q.end i inside q.patterns x 0 p p at (omega arith) (
        allowed_named p (length q.patterns) p (slice_get_within q.patterns p x at) refl,
        λ k low high differ. allowed_other p (length q.patterns) k differ,
      )

  named_none : (i p : ℕ) (o : Option Tree) → slice_get q.patterns p ≡ o → i ≤ q.end →
      pattern_offers q.looks (take q.end q.haystack) p o i ≡ [] →
      choices (allowed (Pattern p) (length q.patterns)) (may_end q) 0 (pattern_ends q i) ≡ []
  named_none i p None at inside none =
      silent (allowed (Pattern p) (length q.patterns)) counted q.looks q.haystack q.end i inside q.patterns 0
      (λ k low high. allowed_other p (length q.patterns) k (let past = none_past p at in λ e. absurd (omega arith)))
  named_none i p (Some x) at inside none =
      one_named i p x at inside
      ∙ alone_none (allowed (Pattern p) (length q.patterns)) counted q.looks q.haystack q.end i inside x p (reads p x at)
      (none_paired p (preferred_ends q.looks (take q.end q.haystack) x i) none)

  mode_none : (mode : Anchored) (i : ℕ) → i ≤ q.end → mode_offers q.looks (take q.end q.haystack) q.patterns mode i ≡ [] →
      choices (allowed mode (length q.patterns)) (may_end q) 0 (pattern_ends q i) ≡ []
  mode_none No i inside none = none_offered (allowed No (length q.patterns)) counted q.looks q.haystack q.end i inside q.patterns 0
      (all_read q.patterns reads) none
  mode_none Yes i inside none = none_offered (allowed Yes (length q.patterns)) counted q.looks q.haystack q.end i inside q.patterns 0
      (all_read q.patterns reads) none
  mode_none (Pattern p) i inside none = named_none i p (slice_get q.patterns p) refl inside none

  pub no_offer : (i : ℕ) → i ≤ q.end → offers i ≡ [] → choices_at q i ≡ []
  no_offer i inside none = none_if i (mode_none q.mode i inside none) (counted i)

  -- the first offer is the first choice, if it counts
  abbrev pub FirstIs : ℕ → ℕ → ℕ → List (ℕ × ℕ) → Type 0
  FirstIs i n j cs = first_choice i cs ≡ Some (record { pattern = n; start = i; end = j })

  every_allowed : (mode : Anchored) → is_named mode ≡ false → (k : ℕ) → 0 ≤ k → k < 0 + length q.patterns →
      allowed mode (length q.patterns) k ≡ true
  every_allowed mode no_name k low high = allowed_all mode (length q.patterns) k no_name (omega arith)

  named_some : (i n j p : ℕ) (others : List (ℕ × ℕ)) (o : Option Tree) → slice_get q.patterns p ≡ o → i ≤ q.end → counted j ≡ true →
      pattern_offers q.looks (take q.end q.haystack) p o i ≡ (j, n) ∷ others →
      FirstIs i n j (choices (allowed (Pattern p) (length q.patterns)) (may_end q) 0 (pattern_ends q i))
  named_some i n j p others None at inside c e = cc
  named_some i n j p others (Some x) at inside c e =
      ap (first_choice i) (one_named i p x at inside)
      ∙ alone_some (allowed (Pattern p) (length q.patterns)) counted q.looks q.haystack q.end i inside x p n j
      (preferred_ends q.looks (take q.end q.haystack) x i) others (reads p x at) refl c e

  mode_some : (mode : Anchored) (i n j : ℕ) (others : List (ℕ × ℕ)) → i ≤ q.end → counted j ≡ true →
      mode_offers q.looks (take q.end q.haystack) q.patterns mode i ≡ (j, n) ∷ others →
      FirstIs i n j (choices (allowed mode (length q.patterns)) (may_end q) 0 (pattern_ends q i))
  mode_some No i n j others inside c e =
      some_offered (allowed No (length q.patterns)) counted q.looks q.haystack q.end i inside q.patterns 0 n j others
      (all_read q.patterns reads) (every_allowed No refl) c e
  mode_some Yes i n j others inside c e =
      some_offered (allowed Yes (length q.patterns)) counted q.looks q.haystack q.end i inside q.patterns 0 n j others
      (all_read q.patterns reads) (every_allowed Yes refl) c e
  mode_some (Pattern p) i n j others inside c e = named_some i n j p others (slice_get q.patterns p) refl inside c e

  pub first_offer : (i n j : ℕ) (others : List (ℕ × ℕ)) → i ≤ q.end → counted i ≡ true → counted j ≡ true → offers i ≡ (j, n) ∷ others →
      FirstIs i n j (choices_at q i)
  first_offer i n j others inside start c e = ap (λ b. first_choice i (cond b (at_place i) [])) start
      ∙ mode_some q.mode i n j others inside c e

  -- and it is a span
  met : (i n j : ℕ) (x : Tree) → slice_get q.patterns n ≡ Some x → i ≤ q.end →
      Has (preferred_ends q.looks (take q.end q.haystack) x i) j → IsMet q i n j
  met i n j x at inside g =
      let m = cut_to_whole q.looks q.haystack q.end x i j inside (preferred_ends_sound q.looks (take q.end q.haystack) x i j g) in
      record { span = record { tree = x; listed = at; means = m.0 }; within = m.1 }

  offered_met : (i n j : ℕ) (others : List (ℕ × ℕ)) → i ≤ q.end →
      offered q.looks (take q.end q.haystack) 0 q.patterns i ≡ (j, n) ∷ others → IsMet q i n j
  offered_met i n j others inside e =
      let o = offer_ends (λ k. true) counted q.looks q.haystack q.end i inside q.patterns 0 n j others e in
      let same : o.index ≡ n = (let s = o.number in omega arith) in
      met i n j o.tree (ap (slice_get q.patterns) (sym same) ∙ o.listed) inside o.has_end

  named_met : (i n j p : ℕ) (others : List (ℕ × ℕ)) (o : Option Tree) → slice_get q.patterns p ≡ o → i ≤ q.end →
      pattern_offers q.looks (take q.end q.haystack) p o i ≡ (j, n) ∷ others → IsMet q i n j
  named_met i n j p others None at inside e = cc
  named_met i n j p others (Some x) at inside e =
      let has = one_paired p n j (preferred_ends q.looks (take q.end q.haystack) x i) others e in
      met i n j x (ap (slice_get q.patterns) (sym has.0) ∙ at) inside has.1

  mode_met : (mode : Anchored) (i n j : ℕ) (others : List (ℕ × ℕ)) → i ≤ q.end →
      mode_offers q.looks (take q.end q.haystack) q.patterns mode i ≡ (j, n) ∷ others → IsMet q i n j
  mode_met No i n j others inside e = offered_met i n j others inside e
  mode_met Yes i n j others inside e = offered_met i n j others inside e
  mode_met (Pattern p) i n j others inside e = named_met i n j p others (slice_get q.patterns p) refl inside e

  pub offer_met : (i n j : ℕ) (others : List (ℕ × ℕ)) → i ≤ q.end → offers i ≡ (j, n) ∷ others → IsMet q i n j
  offer_met i n j others inside e = mode_met q.mode i n j others inside e

  -- a span that counts is a choice
  pub span_chosen : (p i j : ℕ) → allowed q.mode (length q.patterns) p ≡ true → MeansSpan q p i j → i ≤ q.end → j ≤ q.end →
      counted i ≡ true → counted j ≡ true → choices_at q i ≡ [] → ⊥
  span_chosen p i j may m inside within start c none =
      let all : at_place i ≡ [] = sym (ap (λ b. cond b (at_place i) []) start) ∙ none in
      span_is_choice (allowed q.mode (length q.patterns)) counted q.looks q.haystack q.end i inside q.patterns m.tree 0 p p j m.listed
      (omega arith) may
      (preferred_ends_complete q.looks q.haystack m.tree i j m.means) (and_from (nat_le j q.end) (counted j) (le-leb j q.end within) c) all

  -- so the offers determine the choices
  pub choices_told : ReportsFaultOf q offers (HasNoChoice q) (IsFirstChoice q)
  choices_told = record {
    none = no_offer;
    met = λ i j p others inside is. offer_met i p j others inside is;
    best = λ i j p others inside start end is. first_offer i p j others inside start end is;
    uncounted = uncounted;
    missed = λ i p j inside c none.
        span_chosen p i j c.findable.may c.findable.span inside c.findable.within c.start_counts c.end_counts none;
  }
