-- The end that a search forward finds is that of an answer, for every set of words. The search read words as bytes, and for no byte that it
-- read do words of characters differ from these.
use Rattle.std.proofs.Common.{◌≡◌, ℕ, zero, suc, ◌+◌, ◌-◌, ◌<◌, ◌≤◌, Bool, true, false, not, ◌&&◌, List, Option, Some, None, refl, sym, ap}
use Rattle.std.proofs.Common.{◌∙◌, subst, inl, inr, arith}
use Rattle.std.specs.List.{flat_map}
use Rattle.std.proofs.lemmas.Bool.{cases_lt, cases_Bool, and_from}
use Rattle.look_core.specs.Looks.{holds, IsWordSet}
use Rattle.look_core.specs.Terminators.{Terminator}
use Rattle.hir_core.specs.Tree.{Tree}
use Rattle.hir_core.specs.Means.{Looks}
use Rattle.hir_core.proofs.ForCallers.{empty_span}
use Rattle.search_types.specs.declared.anchored.Anchored.{Anchored}
use Rattle.search_types.specs.declared.anchored.Anchored.TheVariants.{No, Yes, Pattern}
use Rattle.search_types.specs.Inputs.{Search}
use Rattle.search_types.specs.Modes.{is_anchored, last_start}
use Rattle.search_types.specs.Places.{counts}
use Rattle.search_types.specs.FirstFound.{first_of, offsets_from, IsFirstOffer}
use Rattle.search_types.proofs.ForCallers.{first_found, starts_at}
use Rattle.nfa_core.specs.NfaValue.{has_empty}
use Rattle.nfa_core.specs.Nfa.{Automaton}
use Rattle.nfa_core.specs.Places.{first}
use Rattle.nfa_core.specs.Reaches.{read_by}
use Rattle.nfa_core.specs.Ways.{Text, offset_of, ends_from}
use Rattle.lazy_dfa.specs.Dfas.{reader}
use Rattle.lazy_dfa.specs.Scans.{start_name}
use Rattle.lazy_dfa.specs.ScanLaws.{splits}
use Rattle.lazy_dfa.specs.Readers.{Reader, found}
use Rattle.lazy_dfa.specs.HalfSearches.{first_offset, half_search}
use Rattle.lazy_dfa.specs.HalfSearchLaws.{restarts, IsSplitBy, IsFirstFound, ends_by}
use Rattle.lazy_dfa.specs.SearchAnswers.{HasReach}
use Rattle.lazy_dfa.proofs.ForCallers.{scan_has_reach, scan_done, no_pattern, few_restarts, one_found}
use Rattle.regex_pair.specs.Pairs.{Pair}
use Rattle.hir_regex.specs.Choices.{Query}
use Rattle.hir_regex.specs.Regexes.{IsRegexOf, IsSearchOf, query_of}
use Rattle.hir_regex.proofs.EndLemmas.{Fits, ReportsFaultOf, HasEnd, AllCount, Firsts, IsSplitAt, ends_past, none_past, anchored_split}
use Rattle.hir_regex.proofs.EndLemmas.{whole_ends}
use Rattle.hir_regex.proofs.EndLemmas.{no_place, unanchored_no, last_within}
use Rattle.hir_regex.proofs.FirstEndLemmas.{FindsFirsts}
use Rattle.hir_regex.proofs.RegexLemmas.{goes_forward, forward_is_utf8, place_forward, reads_alike}

-- ---- how often a search restarts

some_free : (mode : Anchored) (n k : ℕ) → k ≤ restarts mode n → 0 < k → mode ≡ No
some_free No n k l some = refl
some_free Yes n k l some = absurd (omega arith)
some_free (Pattern p) n k l some = absurd (omega arith)

all_places : (mode : Anchored) (n : ℕ) → mode ≡ No → restarts mode n ≡ n
all_places No n free = refl
all_places Yes n free = cc
all_places (Pattern p) n free = cc

not_split : (counted : ℕ → Bool) (c : ℕ × ℕ) → splits counted (found (Some c)) ≡ false → counted c.0 ≡ true
not_split counted c e = elim (cases_Bool (counted c.0)) [
  | inl yes_it ↦ yes_it
  | inr off ↦ let differ : true ≡ false = sym (ap not off) ∙ e in cc
]

-- ---- a search forward, of trees whose words are those of a set
module _ (xs : List Tree) (utf8 : Bool) (t : Terminator) (p : Pair) (regex : IsRegexOf xs utf8 t p) (q : Search)
    (asked : IsSearchOf xs utf8 q)
    (words : ℕ → Bool) (set : IsWordSet words) where
  abbrev f : Reader
  f = reader p.forward

  abbrev a : Automaton
  a = p.forward.nfa.automaton

  abbrev looks : Looks
  looks = holds words t q.haystack

  abbrev asks : Query
  asks = query_of xs utf8 looks q

  abbrev text : Text
  text = read_by looks q.haystack q.start q.end

  pub fits_query : Fits asks
  fits_query = record { within = asked.within; valid = asked.valid; utf8_trees = asked.utf8_trees }

  pub reach : (o : Option (ℕ × ℕ)) → half_search f q ≡ found o → HasReach f q o
  reach o is = scan_has_reach f q o (goes_forward xs utf8 t p regex) regex.forward.sound asked.within is

  first_by_words : (o : Option (ℕ × ℕ)) (name : ℕ) → q.start ≤ q.end → start_name a q.anchored ≡ Some name → half_search f q ≡ found o →
      IsFirstFound f q looks name o
  first_by_words o name l named is =
      let r = reach o is in
      r.1.finds.first name looks l regex.finds_first asked.whole regex.no_captures named
      (reads_alike xs utf8 t p regex q.haystack asked.bytes words set q.start r.0 r.1.finds.quiet q.end)

  pub all_count : f.between_characters ≡ false → AllCount asks fits_query
  all_count off = elim (cases_Bool utf8) [
    | inl on ↦ inr (λ k i span.
        let some : has_empty a ≡ true =
        regex.is_forward.empty.1 (k, span.tree, span.listed, empty_span looks q.haystack span.tree i i refl span.means) in
        let differ : true ≡ false = sym (and_from p.forward.nfa.utf8 (has_empty a) (forward_is_utf8 xs utf8 t p regex ∙ on) some) ∙ off in
        cc)
    | inr plain ↦ inl plain
  ]

  -- if ends may split, the automaton is in UTF-8 mode
  split_mode : (u v m : Bool) → u && v ≡ true → u ≡ m → u && v ≡ m
  split_mode true v m on same = on ∙ same
  split_mode false v m on same = cc

  module _ (offers : ℕ → List (ℕ × ℕ)) (Nothing : ℕ → Type 0) (Best : ℕ → ℕ → ℕ →
      Type 0) (reports : ReportsFaultOf asks offers Nothing Best)
      (finds : FindsFirsts a text q.anchored offers) where
    abbrev FirstsFrom : ℕ → Option (ℕ × ℕ) → Type 0
    FirstsFrom i o = Firsts asks fits_query offers Nothing Best reports i o

    abbrev Splits : ℕ → Type 0
    Splits i = IsSplitAt asks fits_query offers Nothing Best reports i

    module _ (name : ℕ) (named : start_name a q.anchored ≡ Some name) (l : q.start ≤ q.end) where
      abbrev wanted : ℕ → Option (ℕ × ℕ) → Type 0
      wanted k o = o ≡ first (ends_by f q looks name k)

      firsts_at : (k : ℕ) (o : Option (ℕ × ℕ)) → q.start + k ≤ q.end → wanted k o → FirstsFrom (q.start + k) o
      firsts_at k o inside is =
          let at : offset_of a.reverse (first_offset a.reverse q.start q.end) k ≡ q.start + k =
          place_forward a.reverse q.start q.end k (goes_forward xs utf8 t p regex) in
          let n : ℕ = suc (last_start q.anchored (q.start + k) q.end) - (q.start + k) in
          let same : o ≡ first_of (flat_map offers (offsets_from (q.start + k) n)) =
          is ∙ ap (λ i. first (ends_from a text (i, name))) at ∙ finds.firsts (q.start + k) name (omega arith) inside named in
          let P : Option (ℕ × ℕ) → Type 0 = λ r. IsFirstOffer offers (q.start + k) n r in
          subst P (sym same) (first_found offers n (q.start + k))

      firsts_here : (o : Option (ℕ × ℕ)) → wanted 0 o → FirstsFrom q.start o
      firsts_here o is =
          let here : q.start + 0 ≡ q.start = omega arith in
          let P : ℕ → Type 0 = λ i. FirstsFrom i o in
          subst P here (firsts_at 0 o (omega arith) is)

      -- each end that doesn't count is one that splits a character
      module _ (same : f.between_characters ≡ utf8) where
        split_at : (i : ℕ) → q.start ≤ i → i ≤ q.end → IsSplitBy wanted f q (i - q.start) → Splits i
        split_at i low high split =
            let at : q.start + (i - q.start) ≡ i = omega arith in
            let P : ℕ → Type 0 = λ k. FirstsFrom k (Some split.0) in (
              split.0,
              subst P at (firsts_at (i - q.start) (Some split.0) (omega arith) split.1),
              ap (λ b. counts b q.haystack split.0.0) (sym same) ∙ split.2,
            )

        counted_if : (o : Option (ℕ × ℕ)) → splits (counts f.between_characters q.haystack) (found o) ≡ false → (c : ℕ × ℕ) → o ≡ Some c →
            counts utf8 q.haystack c.0 ≡ true
        counted_if o e c is =
            ap (λ b. counts b q.haystack c.0) (sym same)
            ∙ not_split (counts f.between_characters q.haystack) c
            (ap (λ r. splits (counts f.between_characters q.haystack) (found r)) (sym is) ∙ e)

        found_past : (k : ℕ) (o : Option (ℕ × ℕ)) → k ≤ restarts q.anchored (q.end - q.start) →
            ((m : ℕ) → m < k → IsSplitBy wanted f q m) → wanted k o →
            splits (counts f.between_characters q.haystack) (found o) ≡ false → HasEnd asks Nothing Best q.start o
        found_past k o few below there counted =
            let inside : k ≤ q.end - q.start = few_restarts q.anchored (q.end - q.start) k few in
            ends_past asks fits_query offers Nothing Best reports k q.start (q.start + k) o refl (omega arith)
            (some_free q.anchored (q.end - q.start) k few)
            (λ i low high. split_at i low (omega arith) (below (i - q.start) (omega arith)))
            (firsts_at k o (omega arith) there) (counted_if o counted)

        none_found : ((m : ℕ) → m ≤ restarts q.anchored (q.end - q.start) → IsSplitBy wanted f q m) → HasEnd asks Nothing Best q.start None
        none_found all = elim (cases_Bool (is_anchored q.anchored)) [
          | inl fixed ↦
              let none : q.start - q.start ≡ 0 = omega arith in
              let P : ℕ → Type 0 = λ k. IsSplitBy wanted f q k in
              anchored_split asks fits_query offers Nothing Best reports q.start l fixed
              (split_at q.start (omega arith) l (subst P (sym none) (all 0 (omega arith))))
          | inr free ↦
              let no_anchor : q.anchored ≡ No = unanchored_no q.anchored free in
              let many : restarts q.anchored (q.end - q.start) ≡ q.end - q.start = all_places q.anchored (q.end - q.start) no_anchor in
              none_past asks fits_query offers Nothing Best reports q.start l no_anchor
              (λ i low high. split_at i low high (all (i - q.start) (omega arith)))
        ]

        found_between : (o : Option (ℕ × ℕ)) → IsFirstFound f q looks name o → HasEnd asks Nothing Best q.start o
        found_between o (inl there) = found_past there.0 o there.1 there.2 there.3 there.4
        found_between o (inr all) =
            let P : Option (ℕ × ℕ) → Type 0 = λ r. HasEnd asks Nothing Best q.start r in
            subst P (sym all.1) (none_found all.0)

      -- if each end counts, no search restarts
      module _ (off : f.between_characters ≡ false) where
        never_split : (m : ℕ) → IsSplitBy wanted f q m → ⊥
        never_split m split =
            let differ : true ≡ false = sym (ap (λ b. counts b q.haystack split.0.0) off) ∙ split.2 in cc

        found_first : (k : ℕ) (o : Option (ℕ × ℕ)) → ((m : ℕ) → m < k → IsSplitBy wanted f q m) → wanted k o →
            HasEnd asks Nothing Best q.start o
        found_first zero o below there = whole_ends asks fits_query offers Nothing Best reports (all_count off) q.start l o
            (firsts_here o there)
        found_first (suc k) o below there = absurd (never_split 0 (below 0 (omega arith)))

        found_whole : (o : Option (ℕ × ℕ)) → IsFirstFound f q looks name o → HasEnd asks Nothing Best q.start o
        found_whole o (inl there) = found_first there.0 o there.2 there.3
        found_whole o (inr all) = absurd (never_split 0 (all.0 0 (omega arith)))

      found_named : (o : Option (ℕ × ℕ)) → half_search f q ≡ found o → HasEnd asks Nothing Best q.start o
      found_named o is =
          let first_there = first_by_words o name l named is in
          elim (cases_Bool f.between_characters) [
            | inl on ↦ found_between (split_mode p.forward.nfa.utf8 (has_empty a) utf8 on (forward_is_utf8 xs utf8 t p regex)) o first_there
            | inr off ↦ found_whole off o first_there
          ]

    -- of a pattern that doesn't exist nothing is found
    found_nothing : start_name a q.anchored ≡ None → q.start ≤ q.end → (o : Option (ℕ × ℕ)) → half_search f q ≡ found o →
        HasEnd asks Nothing Best q.start o
    found_nothing none l o is =
        let gone : o ≡ None = no_pattern f q o none is in
        let P : Option (ℕ × ℕ) → Type 0 = λ r. HasEnd asks Nothing Best q.start r in
        subst P (sym gone) (λ k starts.
        let at = starts_at q.anchored q.start q.end k starts in
        let low = at.from_s in let high = at.to_last in let last = (last_within q.anchored q.start q.end l).1 in
        reports.none k (omega arith) (finds.nothing none k))

    by_name : (n : Option ℕ) → start_name a q.anchored ≡ n → q.start ≤ q.end → (o : Option (ℕ × ℕ)) → half_search f q ≡ found o →
        HasEnd asks Nothing Best q.start o
    by_name None none l o is = found_nothing none l o is
    by_name (Some name) named l o is = found_named name named l o is

    pub scan_has_end : (o : Option (ℕ × ℕ)) → half_search f q ≡ found o → HasEnd asks Nothing Best q.start o
    scan_has_end o is = elim (cases_lt q.end q.start) [
      | inl past ↦
          let P : Option (ℕ × ℕ) → Type 0 = λ r. HasEnd asks Nothing Best q.start r in
          let gone : o ≡ None = one_found o None (sym is ∙ scan_done f q past) in
          subst P (sym gone) (no_place asks fits_query offers Nothing Best reports q.start past)
      | inr l ↦ by_name (start_name a q.anchored) refl l o is
    ]
