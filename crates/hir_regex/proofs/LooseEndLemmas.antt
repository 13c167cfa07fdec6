-- What the runs of an automaton that is compiled from trees offer at each offset, whatever the repetitions of the trees consume: it
-- determines the answer except for the preference of ends.
use Rattle.std.proofs.Common.{◌≡◌, ℕ, suc, ◌-◌, ◌<◌, ◌≤◌, Bool, true, false, List, [], ◌∷◌, length, take, get_or, slice_get, Option, Some}
use Rattle.std.proofs.Common.{None, refl, sym, ap, ◌∙◌, subst, arith, nat_lt, ◌==◌, eq-eqb}
use Rattle.std.specs.List.{flat_map}
use Rattle.std.proofs.lemmas.Bool.{lt-ltb, and_parts, and_from}
use Rattle.std.proofs.lemmas.Bool.Decides.{Decides-eqb}
use Rattle.std.proofs.lemmas.Option.{slice_get_within, slice_get-get_or, get_or_from_slice_get}
use Rattle.hir_core.specs.Tree.{Tree, empty}
use Rattle.hir_core.specs.Means.{Looks, Means}
use Rattle.hir_core.proofs.ForCallers.{cut_to_whole, whole_to_cut}
use Rattle.search_types.specs.declared.anchored.Anchored.{Anchored}
use Rattle.search_types.specs.declared.anchored.Anchored.TheVariants.{No, Yes, Pattern}
use Rattle.search_types.specs.Modes.{allowed, last_start}
use Rattle.search_types.specs.FirstFound.{first_of, offsets_from, IsFirstAt, IsFirstOffer}
use Rattle.search_types.proofs.ForCallers.{first_found}
use Rattle.nfa_core.specs.Walks.{Has}
use Rattle.nfa_core.specs.Places.{same_pair, first}
use Rattle.nfa_core.specs.Nfa.{Automaton}
use Rattle.nfa_core.specs.NfaValue.{Nfa}
use Rattle.nfa_core.specs.Reaches.{read_by}
use Rattle.nfa_core.specs.Ways.{Text, ends_from}
use Rattle.nfa_core.proofs.ForCallers.{none_in, has_first, pairs_equal}
use Rattle.thompson_nfa.specs.Configs.{Options, reverse_of}
use Rattle.thompson_nfa.specs.Compilations.{IsCompiled, IsPlainText, FindsSpans, HasStarts, pattern_start}
use Rattle.lazy_dfa.specs.Scans.{start_name}
use Rattle.hir_regex.specs.Choices.{Query}
use Rattle.hir_regex.specs.LooseAnswers.{IsFindable, IsCounted}
use Rattle.hir_regex.proofs.EndLemmas.{ReportsFaultOf}
use Rattle.hir_regex.proofs.FirstEndLemmas.{FindsFirsts, first_of_ends, first_is_of, same_over, one_place, no_start_no_tree, start_has_tree}

-- no span that counts starts at the offset
abbrev pub HasNoneCounted : Query → ℕ → Type 0
HasNoneCounted q i = (p j : ℕ) → IsCounted q i p j → ⊥

-- the span counts, and none of an earlier pattern does
pub record IsOfFirstPattern (q : Query) (i p j : ℕ) : Type 0 where
  pub counted : IsCounted q i p j
  pub first_pattern : (k l : ℕ) → k < p → IsCounted q i k l → ⊥

-- at each offset up to the end: nothing if no span is found, and else first one of the first pattern that has one
record Offers (q : Query) (offers : ℕ → List (ℕ × ℕ)) : Type 0 where
  none : (i : ℕ) → i ≤ q.end → offers i ≡ [] → (p j : ℕ) → IsFindable q i p j → ⊥
  found : (i j p : ℕ) (others : List (ℕ × ℕ)) → i ≤ q.end → offers i ≡ (j, p) ∷ others → IsFindable q i p j
  first : (i j p : ℕ) (others : List (ℕ × ℕ)) → i ≤ q.end → offers i ≡ (j, p) ∷ others → (k l : ℕ) → k < p → IsFindable q i k l → ⊥

told_loosely : (q : Query) (offers : ℕ → List (ℕ × ℕ)) → Offers q offers → ReportsFaultOf q offers (HasNoneCounted q) (IsOfFirstPattern q)
told_loosely q offers reported = record {
  none = λ i inside is p j c. reported.none i inside is p j c.findable;
  met = λ i j p others inside is. let f = reported.found i j p others inside is in record { span = f.span; within = f.within };
  best = λ i j p others inside start end is. record {
    counted = record { findable = reported.found i j p others inside is; start_counts = start; end_counts = end };
    first_pattern = λ k l less c. reported.first i j p others inside is k l less c.findable;
  };
  uncounted = λ i off p j c. let t = c.start_counts in let differ : true ≡ false = sym t ∙ off in cc;
  missed = λ i p j inside c nothing. nothing p j c;
}

abbrev ends_in : Automaton → Text → ℕ → Option ℕ → List (ℕ × ℕ)
ends_in a t i None = []
ends_in a t i (Some q) = ends_from a t (i, q)

abbrev anchored_in : Automaton → Anchored → Option ℕ
anchored_in a No = Some a.start_anchored
anchored_in a Yes = Some a.start_anchored
anchored_in a (Pattern p) = slice_get a.start_pattern p

pub allowed_named : (p n k : ℕ) → allowed (Pattern p) n k ≡ true → k ≡ p
allowed_named p n k t = (Decides-eqb k p).0 (and_parts _ _ t).1

-- what a list of ends has, and what it doesn't have
heads : (l others : List (ℕ × ℕ)) (c : ℕ × ℕ) → l ≡ c ∷ others → Has same_pair c l
heads l others c e = let P : List (ℕ × ℕ) → Type 0 = λ k. Has same_pair c k in subst P (sym e) (has_first same_pair pairs_equal c others)

pub holds_none : (l : List (ℕ × ℕ)) (c : ℕ × ℕ) → l ≡ [] → Has same_pair c l → ⊥
holds_none l c e has = let P : List (ℕ × ℕ) → Type 0 = λ k. Has same_pair c k in none_in same_pair c ⊥ (subst P e has)

first_some : (l others : List (ℕ × ℕ)) (c : ℕ × ℕ) (r : Option (ℕ × ℕ)) → l ≡ c ∷ others → first l ≡ r → r ≡ Some c
first_some l others c r is same = sym same ∙ ap first is

module _ (o : Options) (xs : List Tree) (n : Nfa) (compiled : IsCompiled o xs n) (up : reverse_of o ≡ false)
    (looks : Looks) (h : List ℕ) (s e : ℕ) (read : IsPlainText (read_by looks h s e)) (utf8 : Bool) where
  abbrev t : Text
  t = read_by looks h s e

  abbrev pub query_in : Anchored → Query
  query_in mode = record { patterns = xs; looks = looks; haystack = h; end = e; mode = mode; utf8 = utf8 }

  spans : FindsSpans false xs n
  spans = let P : Bool → Type 0 = λ b. FindsSpans b xs n in subst P up compiled.spans

  starts : HasStarts false (length xs) n
  starts = let P : Bool → Type 0 = λ b. HasStarts b (length xs) n in subst P up compiled.starts

  abbrev pub loose_offers : Anchored → ℕ → List (ℕ × ℕ)
  loose_offers mode i = ends_in n.automaton t i (anchored_in n.automaton mode)

  abbrev by_pattern : ℕ → ℕ → List (ℕ × ℕ)
  by_pattern i p = ends_from n.automaton t (i, pattern_start n.automaton p)

  abbrev all_ends : ℕ → List (ℕ × ℕ)
  all_ends i = ends_from n.automaton t (i, n.automaton.start_anchored)

  has_all : (mode : Anchored) (i p j : ℕ) → i ≤ e → IsFindable (query_in mode) i p j → Has same_pair (j, p) (all_ends i)
  has_all mode i p j l f = (spans.anchored t i (j, p) l).1
      (f.span.tree, f.span.listed, whole_to_cut looks h e f.span.tree i j f.within f.span.means)

  has_one : (mode : Anchored) (i p j : ℕ) → i ≤ e → IsFindable (query_in mode) i p j → Has same_pair (j, p) (by_pattern i p)
  has_one mode i p j l f =
      (spans.patterns p f.span.tree f.span.listed t i (j, p) l).1 (refl, whole_to_cut looks h e f.span.tree i j f.within f.span.means)

  findable : (mode : Anchored) (i p j : ℕ) (x : Tree) → i ≤ e → allowed mode (length xs) p ≡ true → slice_get xs p ≡ Some x →
      Means looks (take e h) x i j →
      IsFindable (query_in mode) i p j
  findable mode i p j x l may listed m =
      let whole = cut_to_whole looks h e x i j l m in
      record { may = may; span = record { tree = x; listed = listed; means = whole.0 }; within = whole.1 }

  -- of all patterns
  found_all : (mode : Anchored) (i j p : ℕ) (others : List (ℕ × ℕ)) → ((k : ℕ) → k < length xs → allowed mode (length xs) k ≡ true) →
      i ≤ e →
      all_ends i ≡ (j, p) ∷ others → IsFindable (query_in mode) i p j
  found_all mode i j p others may l e =
      let c = (spans.anchored t i (j, p) l).0 (heads (all_ends i) others (j, p) e) in
      findable mode i p j c.0 l (may p (slice_get_within xs p c.0 c.1)) c.1 c.2

  first_all_at : (mode : Anchored) (i j p : ℕ) → i ≤ e → IsFirstAt (by_pattern i) 0 (length xs) (j, p) → (k l : ℕ) → k < p →
      IsFindable (query_in mode) i k l → ⊥
  first_all_at mode i j p low at k l less f =
      let inside = at.below in
      let listed = slice_get-get_or xs at.place empty (omega arith) in
      let same = ((spans.patterns at.place (get_or xs at.place empty) listed t i (j, p) low).0
      (heads (by_pattern i at.place) at.others (j, p) at.here)).0 in
      holds_none (by_pattern i k) (l, k) (at.none_before k (omega arith) (omega (arith, same))) (has_one mode i k l low f)

  first_all : (mode : Anchored) (i j p : ℕ) (others : List (ℕ × ℕ)) → i ≤ e → all_ends i ≡ (j, p) ∷ others →
      (k l : ℕ) → k < p → IsFindable (query_in mode) i k l → ⊥
  first_all mode i j p others low is =
      let l : List (ℕ × ℕ) = flat_map (by_pattern i) (offsets_from 0 (length xs)) in
      let same : first_of l ≡ Some (j, p) =
      first_some (all_ends i) others (j, p) (first_of l) is
      (first_of_ends (all_ends i) (flat_map (by_pattern i) (offsets_from 0 (length xs))) (starts.anchored t i low)
      ∙ ap first_of (same_over (by_pattern i) (by_pattern i) (length xs) 0 (λ k. refl))) in
      let P : Option (ℕ × ℕ) → Type 0 = λ r. IsFirstOffer (by_pattern i) 0 (length xs) r in
      first_all_at mode i j p low (subst P same (first_found (by_pattern i) (length xs) 0))

  told_all : (mode : Anchored) → ((k : ℕ) → k < length xs → allowed mode (length xs) k ≡ true) → Offers (query_in mode) all_ends
  told_all mode may = record {
    none = λ i l none p j f. holds_none (all_ends i) (j, p) none (has_all mode i p j l f);
    found = λ i j p others l e. found_all mode i j p others may l e;
    first = λ i j p others l e. first_all mode i j p others l e;
  }

  -- of the named pattern
  found_named : (p k i j m : ℕ) (others : List (ℕ × ℕ)) → by_pattern i p ≡ ends_from n.automaton t (i, k) →
      slice_get xs p ≡ Some (get_or xs p empty) → i ≤ e →
      ends_from n.automaton t (i, k) ≡ (j, m) ∷ others → IsFindable (query_in (Pattern p)) i m j
  found_named p k i j m others at listed l is =
      let both = (spans.patterns p (get_or xs p empty) listed t i (j, m) l).0 (heads (by_pattern i p) others (j, m) (at ∙ is)) in
      let inside = slice_get_within xs p (get_or xs p empty) listed in
      findable (Pattern p) i m j (get_or xs p empty) l
      (and_from (nat_lt m (length xs)) (m == p) (lt-ltb m (length xs) (let same = both.0 in omega arith)) (eq-eqb m p both.0))
      (ap (slice_get xs) both.0 ∙ listed) both.1

  told_named : (p : ℕ) (k : Option ℕ) → slice_get n.automaton.start_pattern p ≡ k →
      Offers (query_in (Pattern p)) (λ i. ends_in n.automaton t i k)
  told_named p None is = record {
    none = λ i l none m j f.
        let same : m ≡ p = allowed_named p (length xs) m f.may in
        no_start_no_tree o xs n compiled p is f.span.tree (ap (slice_get xs) (sym same) ∙ f.span.listed);
    found = λ i j m others l e. cc;
    first = λ i j m others l e. cc;
  }
  told_named p (Some k) is =
      let here : pattern_start n.automaton p ≡ k = get_or_from_slice_get n.automaton.start_pattern p k 0 is in
      let listed = start_has_tree o xs n compiled p k is in
      let at_start : (i : ℕ) → by_pattern i p ≡ ends_from n.automaton t (i, k) = λ i. ap (λ m. ends_from n.automaton t (i, m)) here in
      record {
        none = λ i l none m j f.
            let same : m ≡ p = allowed_named p (length xs) m f.may in
            holds_none (by_pattern i m) (j, m) (ap (by_pattern i) same ∙ at_start i ∙ none) (has_one (Pattern p) i m j l f);
        found = λ i j m others l e. found_named p k i j m others (at_start i) listed l e;
        first = λ i j m others l e a b less f.
            let same : a ≡ p = allowed_named p (length xs) a f.may in
            let other : m ≡ p = allowed_named p (length xs) m (found_named p k i j m others (at_start i) listed l e).may in
            absurd (omega arith);
      }

  offers_told : (mode : Anchored) → Offers (query_in mode) (loose_offers mode)
  offers_told No = told_all No (λ k less. lt-ltb k (length xs) less)
  offers_told Yes = told_all Yes (λ k less. lt-ltb k (length xs) less)
  offers_told (Pattern p) = told_named p (slice_get n.automaton.start_pattern p) refl

  pub loosely_told : (mode : Anchored) → ReportsFaultOf (query_in mode) (loose_offers mode) (HasNoneCounted (query_in mode))
      (IsOfFirstPattern (query_in mode))
  loosely_told mode = told_loosely (query_in mode) (loose_offers mode) (offers_told mode)

  -- what is found first, from each start
  unanchored : (i name : ℕ) → s ≤ i → i ≤ e → start_name n.automaton No ≡ Some name →
      first (ends_from n.automaton t (i, name)) ≡ first_of (flat_map (loose_offers No) (offsets_from i (suc e - i)))
  unanchored i name low high is =
      let same : n.automaton.start_unanchored ≡ name = cc in
      ap (λ k. first (ends_from n.automaton t (i, k))) (sym same)
      ∙ first_of_ends (ends_from n.automaton t (i, n.automaton.start_unanchored)) (flat_map all_ends (offsets_from i (suc e - i)))
      (starts.unanchored refl t i read low high)
      ∙ ap first_of (same_over all_ends (loose_offers No) (suc e - i) i (λ k. refl))

  from_here : (mode : Anchored) (i name : ℕ) → anchored_in n.automaton mode ≡ Some name →
      first (ends_from n.automaton t (i, name)) ≡ first_of (flat_map (loose_offers mode) (offsets_from i (suc i - i)))
  from_here mode i name is =
      first_is_of (ends_from n.automaton t (i, name))
      ∙ ap first_of (ap (ends_in n.automaton t i) (sym is) ∙ sym (one_place (loose_offers mode) i))

  first_in : (mode : Anchored) (i name : ℕ) → s ≤ i → i ≤ e → start_name n.automaton mode ≡ Some name →
      first (ends_from n.automaton t (i, name)) ≡ first_of (flat_map (loose_offers mode) (offsets_from i (suc (last_start mode i e) - i)))
  first_in No i name low high is = unanchored i name low high is
  first_in Yes i name low high is = from_here Yes i name is
  first_in (Pattern p) i name low high is = from_here (Pattern p) i name is

  nothing_in : (mode : Anchored) → start_name n.automaton mode ≡ None → (i : ℕ) → loose_offers mode i ≡ []
  nothing_in No none i = cc
  nothing_in Yes none i = cc
  nothing_in (Pattern p) none i = ap (ends_in n.automaton t i) none

  pub loose_firsts : (mode : Anchored) → FindsFirsts n.automaton t mode (loose_offers mode)
  loose_firsts mode = record { firsts = first_in mode; nothing = nothing_in mode }
