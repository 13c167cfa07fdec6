-- Whether there is a match is reported as the trees define it.
use Rattle.std.proofs.Common.{◌≡◌, ℕ, zero, suc, ◌+◌, ◌<◌, ◌≤◌, Bool, true, false, not, List, [], length, take, slice_get, get_or, nat_lt}
use Rattle.std.proofs.Common.{◌==◌, eq-eqb, Option, Some, None, All, refl, sym, ap, ◌∙◌, subst, inl, inr, arith}
use Rattle.std.specs.Prelude.{Result, Ok, is_some}
use Rattle.std.proofs.lemmas.Bool.{cases_lt, lt-ltb, and_from}
use Rattle.std.proofs.lemmas.Option.{slice_get_within, get_or_from_slice_get}
use Rattle.look_core.specs.Looks.{holds, holds_ascii, IsWordSet}
use Rattle.look_core.specs.Terminators.{Terminator}
use Rattle.hir_core.specs.Tree.{Tree, empty}
use Rattle.hir_core.specs.Means.{Means}
use Rattle.hir_core.specs.Facts.{LoopsRead}
use Rattle.hir_core.proofs.ForCallers.{cut_to_whole, span_forward, same_spans_within}
use Rattle.search_types.specs.declared.anchored.Anchored.{Anchored}
use Rattle.search_types.specs.declared.anchored.Anchored.TheVariants.{No, Yes, Pattern}
use Rattle.search_types.specs.declared.match_error.MatchErrorKind.{MatchErrorKind}
use Rattle.search_types.specs.Found.{Found}
use Rattle.search_types.specs.Inputs.{Search, with_earliest}
use Rattle.search_types.specs.LeftmostAnswer.{IsAnswer}
use Rattle.search_types.specs.Modes.{may_start, last_start, allowed}
use Rattle.search_types.specs.Places.{counts}
use Rattle.search_types.proofs.ForCallers.{computed_is_answer, may_start_at}
use Rattle.nfa_core.specs.Walks.{Has}
use Rattle.nfa_core.specs.Nfa.{Automaton}
use Rattle.nfa_core.specs.Places.{same_pair}
use Rattle.nfa_core.specs.Ways.{Text, span, offset_of, ends_from}
use Rattle.thompson_nfa.specs.Compilations.{FindsSpans, IsPlainText, pattern_start}
use Rattle.lazy_dfa.specs.Dfas.{reader}
use Rattle.lazy_dfa.specs.Scans.{start_name}
use Rattle.lazy_dfa.specs.Readers.{Reader, HalfAnswer, found, quit, unsupported}
use Rattle.lazy_dfa.specs.HalfSearches.{first_offset, half_search}
use Rattle.lazy_dfa.specs.HalfSearchLaws.{IsWanted, IsSplitBy, IsFound, ends_of}
use Rattle.lazy_dfa.specs.SearchAnswers.{HasReach}
use Rattle.lazy_dfa.proofs.ForCallers.{scan_finds, scan_has_reach, scan_in_span, no_pattern, start_is_state}
use Rattle.regex_pair.specs.Matching.{has_match, match_search, match_result, is_some_match}
use Rattle.regex_pair.specs.Pairs.{Pair}
use Rattle.hir_regex.specs.Choices.{Query, choices_at, answer_from}
use Rattle.hir_regex.specs.LooseAnswers.{MeansSpan}
use Rattle.hir_regex.specs.Regexes.{IsRegexOf, IsSearchOf, query_of}
use Rattle.hir_regex.proofs.BackLemmas.{best_has}
use Rattle.hir_regex.proofs.EarliestLemmas.{scan_none}
use Rattle.hir_regex.proofs.EndLemmas.{AllCount, span_counts, last_within}
use Rattle.hir_regex.proofs.FirstEndLemmas.{start_has_tree}
use Rattle.hir_regex.proofs.ForwardLemmas.{fits_query, all_count}
use Rattle.hir_regex.proofs.RegexLemmas.{goes_forward, forward_ends_lines, place_forward, trees_alike}
use Rattle.hir_regex.proofs.SearchLemmas.{found_is_answer, trees_tell}

pub all_allowed : (n p : ℕ) → p < n → (allowed No n p ≡ true) × (allowed Yes n p ≡ true)
all_allowed n p l = (lt-ltb p n l, lt-ltb p n l)

-- a span that ends where this end is, of a pattern that the search may find, from an offset where it may start
record IsSpanTo (q : Query) (s : ℕ) (c : ℕ × ℕ) : Type 0 where
  place : ℕ
  from : s ≤ place
  to : place ≤ last_start q.mode s q.end
  may : allowed q.mode (length q.patterns) c.1 ≡ true
  tree : Tree
  listed : slice_get q.patterns c.1 ≡ Some tree
  means : Means q.looks q.haystack tree place c.0
  within : c.0 ≤ q.end

module _ (xs : List Tree) (utf8 : Bool) (t : Terminator) (p : Pair) (regex : IsRegexOf xs utf8 t p) (q : Search)
    (asked : IsSearchOf xs utf8 (with_earliest false q)) (words : ℕ → Bool) (set : IsWordSet words) (loops : All LoopsRead xs) where
  abbrev f : Reader
  f = reader p.forward

  abbrev a : Automaton
  a = p.forward.nfa.automaton

  abbrev by_bytes : Query
  by_bytes = query_of xs utf8 (holds_ascii t q.haystack) q

  abbrev asks : Query
  asks = query_of xs utf8 (holds words t q.haystack) q

  abbrev soonest : Search
  soonest = with_earliest true q

  abbrev text : Text
  text = span t q.haystack q.start q.end

  -- ---- the span of the nearest end, with words read as bytes
  spans : FindsSpans false xs p.forward.nfa
  spans = let P : Bool → Type 0 = λ b. FindsSpans b xs p.forward.nfa in subst P regex.reads_forward regex.is_forward.spans

  is_read : IsPlainText text
  is_read = record { within = asked.within; bytes = asked.bytes; at_start = λ i. refl; at_end = λ i. refl }

  module _ (c : ℕ × ℕ) (l : q.start ≤ q.end) where
    span_of : (mode : Anchored) (k : ℕ) (x : Tree) → q.start ≤ k → k ≤ last_start mode q.start q.end → k ≤ q.end →
        allowed mode (length xs) c.1 ≡ true →
        slice_get xs c.1 ≡ Some x → Means (holds_ascii t q.haystack) (take q.end q.haystack) x k c.0 →
        IsSpanTo (record by_bytes { mode = mode }) q.start c
    span_of mode k x low high inside may listed m =
        let whole = cut_to_whole (holds_ascii t q.haystack) q.haystack q.end x k c.0 inside m in
        record { place = k; from = low; to = high; may = may; tree = x; listed = listed; means = whole.0; within = whole.1 }

    by_mode : (mode : Anchored) (name : ℕ) → start_name a mode ≡ Some name → Has same_pair c (ends_from a text (q.start, name)) →
        IsSpanTo (record by_bytes { mode = mode }) q.start c
    by_mode No name named has =
        let same : name ≡ a.start_unanchored = cc in
        let P : ℕ → Type 0 = λ n. Has same_pair c (ends_from a text (q.start, n)) in
        let u = (spans.unanchored text q.start c is_read (omega arith) l).0 (subst P same has) in
        span_of No u.0 u.2.0 u.1.0 u.1.1 u.1.1 (all_allowed (length xs) c.1 (slice_get_within xs c.1 u.2.0 u.2.1)).0 u.2.1 u.2.2
    by_mode Yes name named has =
        let same : name ≡ a.start_anchored = cc in
        let P : ℕ → Type 0 = λ n. Has same_pair c (ends_from a text (q.start, n)) in
        let u = (spans.anchored text q.start c l).0 (subst P same has) in
        span_of Yes q.start u.0 (omega arith) (omega arith) l (all_allowed (length xs) c.1 (slice_get_within xs c.1 u.0 u.1)).1 u.1 u.2
    by_mode (Pattern k) name named has =
        let here : pattern_start a k ≡ name = get_or_from_slice_get a.start_pattern k name 0 named in
        let listed = start_has_tree regex.forward_options xs p.forward.nfa regex.is_forward k name named in
        let P : ℕ → Type 0 = λ n. Has same_pair c (ends_from a text (q.start, n)) in
        let u = (spans.patterns k (get_or xs k empty) listed text q.start c l).0 (subst P (sym here) has) in
        let inside = slice_get_within xs k (get_or xs k empty) listed in
        let same : c.1 ≡ k = u.0 in
        span_of (Pattern k) q.start (get_or xs k empty) (omega arith) (omega arith) l
        (and_from (nat_lt c.1 (length xs)) (c.1 == k) (lt-ltb c.1 (length xs) (omega arith)) (eq-eqb c.1 k same))
        (ap (slice_get xs) same ∙ listed) u.1

  module _ (off : f.between_characters ≡ false) where
    never_split : (wanted : ℕ → Option (ℕ × ℕ) → Type 0) (m : ℕ) → IsSplitBy wanted f soonest m → ⊥
    never_split wanted m split = let differ : true ≡ false = sym (ap (λ b. counts b q.haystack split.0.0) off) ∙ split.2 in cc

    module _ (c : ℕ × ℕ) (is : half_search f soonest ≡ found (Some c)) where
      place : (q.start ≤ c.0) × (c.0 ≤ q.end)
      place = scan_in_span f soonest c is

      begun : q.start ≤ q.end
      begun = let both = place in let low = both.0 in let high = both.1 in omega arith

      reach : HasReach f soonest (Some c)
      reach = scan_has_reach f soonest (Some c) (goes_forward xs utf8 t p regex) regex.forward.sound asked.within is

      nearest_has : (k name : ℕ) → k ≡ 0 → IsWanted f.kind true a.reverse (ends_of f soonest name k) (Some c) →
          Has same_pair c (ends_from a text (q.start, name))
      nearest_has k name none wanted =
          let at : offset_of a.reverse (first_offset a.reverse q.start q.end) 0 ≡ q.start + 0 =
          place_forward a.reverse q.start q.end 0 (goes_forward xs utf8 t p regex) in
          let here : q.start + 0 ≡ q.start = omega arith in
          let same : ends_of f soonest name k ≡ ends_from a text (q.start, name) =
          ap (ends_of f soonest name) none
          ∙ ap (λ j. ends_from a (span p.forward.nfa.terminator q.haystack q.start q.end) (j, name)) (at ∙ here)
          ∙ ap (λ z. ends_from a (span z q.haystack q.start q.end) (q.start, name)) (forward_ends_lines xs utf8 t p regex) in
          let P : List (ℕ × ℕ) → Type 0 = λ l. Has same_pair c l in
          subst P same (best_has (ends_of f soonest name k) c.0 c wanted.0)

      no_more : (k : ℕ) (wanted : ℕ → Option (ℕ × ℕ) → Type 0) → ((m : ℕ) → m < k → IsSplitBy wanted f soonest m) → k ≡ 0
      no_more zero wanted below = refl
      no_more (suc k) wanted below = absurd (never_split wanted 0 (below 0 (omega arith)))

      found_has : (name : ℕ) → IsFound f soonest name (Some c) → Has same_pair c (ends_from a text (q.start, name))
      found_has name (inl there) =
          nearest_has there.0 name (no_more there.0 (λ k x. IsWanted f.kind true a.reverse (ends_of f soonest name k) x) there.2) there.3
      found_has name (inr all) =
          absurd (never_split (λ k x. IsWanted f.kind true a.reverse (ends_of f soonest name k) x) 0 (all.0 0 (omega arith)))

      span_to : (name : Option ℕ) → start_name a q.anchored ≡ name → IsSpanTo by_bytes q.start c
      span_to None none = let gone = no_pattern f soonest (Some c) none is in cc
      span_to (Some name) named =
          by_mode c begun q.anchored name named
          (found_has name (scan_finds f soonest name regex.forward.sound.named begun asked.within named
          (start_is_state a q.anchored name regex.forward.sound named) (Some c) is))

      -- with words read as characters it is a span too, and it counts
      spans_there : MeansSpan asks c.1 (span_to (start_name a q.anchored) refl).place c.0
      spans_there =
          let s = span_to (start_name a q.anchored) refl in
          let far = reach in
          let up : s.place ≤ c.0 = span_forward (holds_ascii t q.haystack) q.haystack s.tree s.place c.0 s.means in
          let inside : c.0 ≤ length q.haystack = (let within = s.within in omega (arith, asked.within)) in
          record {
            tree = s.tree;
            listed = s.listed;
            means = same_spans_within (holds_ascii t q.haystack) (holds words t q.haystack) q.haystack q.start c.0 inside s.tree
                (trees_alike xs utf8 t p regex q.haystack asked.bytes words set q.start far.0 far.1.finds.quiet c.0
                (far.1.finds.past c refl) c.1 s.tree s.listed)
                s.place c.0 s.from up (omega arith) s.means;
          }

      counted_by : AllCount asks (fits_query xs utf8 t p regex (with_earliest false q) asked words set) → (k : ℕ) →
          MeansSpan asks c.1 k c.0 → k ≤ c.0 → c.0 ≤ q.end →
          (counts utf8 q.haystack k ≡ true) × (counts utf8 q.haystack c.0 ≡ true)
      counted_by (inl plain) k s up within = (ap (λ b. counts b q.haystack k) plain, ap (λ b. counts b q.haystack c.0) plain)
      counted_by (inr none) k s up within = elim (cases_lt k c.0) [
        | inl lt ↦ span_counts asks (fits_query xs utf8 t p regex (with_earliest false q) asked words set) c.1 k c.0 s lt within
        | inr ge ↦ let same : c.0 ≡ k = omega arith in
            let P : ℕ → Type 0 = λ j. MeansSpan asks c.1 k j in absurd (none c.1 k (subst P same s))
      ]

      no_answer : answer_from asks q.start ≡ None → ⊥
      no_answer none =
          let s = span_to (start_name a q.anchored) refl in
          let there = spans_there in
          let up : s.place ≤ c.0 = span_forward (holds words t q.haystack) q.haystack there.tree s.place c.0 there.means in
          let ends = counted_by (all_count xs utf8 t p regex (with_earliest false q) asked words set off) s.place there up s.within in
          let P : Option Found → Type 0 = λ o. IsAnswer (choices_at asks) q.anchored q.start q.end o in
          let all : (i : ℕ) → may_start q.anchored q.start q.end i ≡ true → choices_at asks i ≡ [] =
          subst P none (computed_is_answer (choices_at asks) q.anchored q.start q.end) in
          let low = s.from in let high = s.to in let last = (last_within q.anchored q.start q.end begun).1 in
          (trees_tell xs utf8 t p regex (with_earliest false q) asked words set loops).missed s.place c.1 c.0 (omega arith)
          (record { findable = record { may = s.may; span = there; within = s.within }; start_counts = ends.0; end_counts = ends.1 })
          (all s.place (may_start_at q.anchored q.start q.end s.place begun low high))

  -- ---- what is reported
  some_of : (o : Option Found) → (o ≡ None → ⊥) → true ≡ is_some o
  some_of None no_way = absurd (no_way refl)
  some_of (Some v) no_way = refl

  told_late : (o : Option (ℕ × ℕ)) → half_search f (with_earliest false q) ≡ found o → is_some_match o ≡ is_some (answer_from asks q.start)
  told_late o is = found_is_answer xs utf8 t p regex (with_earliest false q) asked words set loops o is

  told_soon : (off : f.between_characters ≡ false) (o : Option (ℕ × ℕ)) → half_search f soonest ≡ found o →
      is_some_match o ≡ is_some (answer_from asks q.start)
  told_soon off None is = told_late None (scan_none f q off is)
  told_soon off (Some c) is = some_of (answer_from asks q.start) (no_answer off c is)

  progress_by : (b : Bool) → f.between_characters ≡ b → (o : Option (ℕ × ℕ)) → half_search f (with_earliest (not b) q) ≡ found o →
      is_some_match o ≡ is_some (answer_from asks q.start)
  progress_by true on o is = told_late o is
  progress_by false off o is = told_soon off o is

  abbrev ok_of : Bool → Result Bool MatchErrorKind
  ok_of b = Ok b

  ok_same : (b c : Bool) → ok_of b ≡ ok_of c → b ≡ c
  ok_same b c e = cc

  reported : (x : HalfAnswer) → half_search f (match_search f q) ≡ x → (b : Bool) → match_result x ≡ ok_of b →
      b ≡ is_some (answer_from asks q.start)
  reported (found o) is b e = sym (ok_same (is_some_match o) b e) ∙ progress_by f.between_characters refl o is
  reported (quit c x) is b e = cc
  reported (unsupported mode) is b e = cc

  pub match_is_told : (b : Bool) → has_match p q ≡ Ok b → b ≡ is_some (answer_from asks q.start)
  match_is_told b e = reported (half_search f (match_search f q)) refl b e
