-- What a search forward for the earliest end finds, in terms of the spans that trees mean.
use Rattle.std.proofs.Common.{◌≡◌, ℕ, zero, suc, ◌+◌, ◌-◌, ◌<◌, ◌≤◌, Bool, true, false, List, [], ◌∷◌, length, Option, Some, None, All}
use Rattle.std.proofs.Common.{slice_get, refl, sym, ap, ◌∙◌, subst, inl, inr, arith, eq-eqb}
use Rattle.std.specs.Bool.{nat_eq}
use Rattle.std.specs.List.{filter}
use Rattle.std.proofs.lemmas.Bool.{cases_lt, lt-ltb}
use Rattle.look_core.specs.Looks.{holds, holds_ascii, IsWordSet}
use Rattle.look_core.specs.Terminators.{Terminator}
use Rattle.hir_core.specs.Agree.{AgreeFrom}
use Rattle.hir_core.specs.Means.{Looks}
use Rattle.hir_core.specs.Tree.{Tree}
use Rattle.hir_core.proofs.ForCallers.{cut_to_whole, whole_to_cut, same_spans_within, span_forward}
use Rattle.search_types.specs.declared.anchored.Anchored.{Anchored}
use Rattle.search_types.specs.declared.match_kind.MatchKind.{MatchKind}
use Rattle.search_types.specs.declared.match_kind.MatchKind.TheVariants.{All as AllMatches, LeftmostFirst}
use Rattle.search_types.specs.Inputs.{Search, with_earliest}
use Rattle.search_types.specs.Places.{counts}
use Rattle.nfa_core.specs.Nfa.{Automaton}
use Rattle.nfa_core.specs.Places.{first, same_pair}
use Rattle.nfa_core.specs.Reaches.{read_by}
use Rattle.nfa_core.specs.Walks.{Has}
use Rattle.nfa_core.specs.Ways.{offset_of, ends_from}
use Rattle.nfa_core.proofs.ForCallers.{none_in, has_same, has_filter, pairs_equal}
use Rattle.thompson_nfa.specs.Compilations.{IsPlainText, FindsSpans}
use Rattle.lazy_dfa.specs.Dfas.{reader}
use Rattle.lazy_dfa.specs.ScanLaws.{best_at, is_past, IsNearestEnd}
use Rattle.lazy_dfa.specs.Readers.{Reader, found, quit, unsupported}
use Rattle.lazy_dfa.specs.HalfSearches.{first_offset, half_search}
use Rattle.lazy_dfa.specs.HalfSearchLaws.{IsFound, IsFirstFound, IsSplitBy, IsWanted, ends_by, ends_of}
use Rattle.lazy_dfa.specs.SearchAnswers.{HasReach, half_of}
use Rattle.lazy_dfa.proofs.ForCallers.{scan_done, scan_finds, scan_has_reach, scan_mode_told, scan_quits_near}
use Rattle.regex_pair.specs.Pairs.{Pair}
use Rattle.hir_regex.specs.Regexes.{IsRegexOf}
use Rattle.growing_regex.specs.Earliest.{NoneEndsBefore, HasNoSpan, IsEarliest, IsLeastEnd, IsSpanFrom, earliest_search}
use Rattle.growing_regex.proofs.LookLemmas.{goes_forward, all_count, reads_alike, trees_alike}
use Rattle.growing_regex.proofs.PassLemmas.{none_scan, quit_scan, some_is_not_none}

-- ---- lists of ends

-- a list that has a thing has a first one
some_first : (l : List (ℕ × ℕ)) (c : ℕ × ℕ) → None ≡ first l → Has same_pair c l → ⊥
some_first [] c none there = none_in same_pair c ⊥ there
some_first (x ∷ xs) c none there = let never : true ≡ false = cc in grind (arith, never)

first_has : (l : List (ℕ × ℕ)) (c : ℕ × ℕ) → first l ≡ Some c → Has same_pair c l
first_has [] c is = cc
first_has (x ∷ xs) c is = let same : c ≡ x = cc in has_same same_pair pairs_equal c x xs same

best_has : (l : List (ℕ × ℕ)) (c : ℕ × ℕ) → best_at l c.0 ≡ Some c → Has same_pair c l
best_has l c is =
    sym (has_filter same_pair pairs_equal (λ (x : ℕ × ℕ). nat_eq x.0 c.0) c l (eq-eqb c.0 c.0 refl))
    ∙ first_has (filter (λ (x : ℕ × ℕ). nat_eq x.0 c.0) l) c is

-- ---- offsets of one who reads forward
at_first : (reverse : Bool) (s e : ℕ) → reverse ≡ false → offset_of reverse (first_offset reverse s e) 0 ≡ s
at_first false s e up = omega arith
at_first true s e up = cc

not_past : (reverse : Bool) (j k : ℕ) → reverse ≡ false → k < j → is_past reverse j k ≡ true
not_past false j k up l = lt-ltb k j l
not_past true j k up l = cc

wanted_is_nearest : (kind : MatchKind) (reverse : Bool) (ends : List (ℕ × ℕ)) (o : Option (ℕ × ℕ)) → IsWanted kind true reverse ends o →
    IsNearestEnd reverse ends o
wanted_is_nearest LeftmostFirst reverse ends o is = is
wanted_is_nearest AllMatches reverse ends o is = is

-- if each end counts, none is one that doesn't
never_split : (wanted : ℕ → Option (ℕ × ℕ) → Type 0) (r : Reader) (q : Search) (k : ℕ) → r.between_characters ≡ false →
    IsSplitBy wanted r q k → ⊥
never_split wanted r q k off split =
    let differ : true ≡ false = sym (ap (λ (b : Bool). counts b q.haystack split.0.0) off) ∙ split.2 in grind (arith, differ)

module _ (wanted : ℕ → Option (ℕ × ℕ) → Type 0) (r : Reader) (q : Search) (off : r.between_characters ≡ false) where
  at_once : (k : ℕ) (o : Option (ℕ × ℕ)) → ((m : ℕ) → m < k → IsSplitBy wanted r q m) → wanted k o → wanted 0 o
  at_once zero o below there = there
  at_once (suc k) o below there = absurd (never_split wanted r q 0 off (below 0 (omega arith)))

-- an unanchored search is one that each automaton supports
pub never_unsupported : (r : Reader) (h : List ℕ) (s e : ℕ) (mode : Anchored) → half_search r (earliest_search h s e) ≡ unsupported mode → ⊥
never_unsupported r h s e mode is =
    let reported = scan_mode_told r (earliest_search h s e) mode is in
    let differ : true ≡ false = reported.2 in grind (arith, differ)

-- ---- spans and runs
module _ (xs : List Tree) (t : Terminator) (p : Pair) (regex : IsRegexOf xs false t p) (h : List ℕ)
    (bytes : All (λ byte. byte < 256) h) where
  abbrev a : Automaton
  a = p.forward.nfa.automaton

  abbrev r : Reader
  r = reader p.forward

  spans : FindsSpans false xs p.forward.nfa
  spans = let P : Bool → Type 0 = λ b. FindsSpans b xs p.forward.nfa in subst P regex.reads_forward regex.is_forward.spans

  abbrev ends_in : Looks → ℕ → ℕ → List (ℕ × ℕ)
  ends_in looks s e = ends_from a (read_by looks h s e) (s, a.start_unanchored)

  -- a span from offset s on starts and ends there
  span_inside : (looks : Looks) (s e k i j : ℕ) → IsSpanFrom xs looks h s e k i j → (i ≤ j) × (s ≤ e)
  span_inside looks s e k i j span =
      let forward = span_forward looks h span.tree i j span.means in
      let from = span.from in let within = span.within in (forward, omega (arith, forward, from, within))

  module _ (looks : Looks) (s e : ℕ) (read : IsPlainText (read_by looks h s e)) (l : s ≤ e) where
    -- runs find the end of each span, and no other offsets
    span_is_found : (k i j : ℕ) → IsSpanFrom xs looks h s e k i j → Has same_pair (j, k) (ends_in looks s e)
    span_is_found k i j span =
        let forward = (span_inside looks s e k i j span).0 in let within = span.within in
        (spans.unanchored (read_by looks h s e) s (j, k) read (omega arith) l).1
        (i, (span.from, omega (arith, forward, within)), (span.tree, span.listed, whole_to_cut looks h e span.tree i j within span.means))

    found_is_span : (c : ℕ × ℕ) → Has same_pair c (ends_in looks s e) → (i : ℕ) × IsSpanFrom xs looks h s e c.1 i c.0
    found_is_span c there =
        let span = (spans.unanchored (read_by looks h s e) s c read (omega arith) l).0 there in
        let whole = cut_to_whole looks h e span.2.0 span.0 c.0 span.1.1 span.2.2 in (
          span.0,
          record { tree = span.2.0; listed = span.2.1; means = whole.0; from = span.1.0; within = whole.1 },
        )

  -- the same span, if looks are read alike up to its end
  span_alike : (f g : Looks) (s e k i j : ℕ) → e ≤ length h →
      ((y : ℕ) (x : Tree) → slice_get xs y ≡ Some x → AgreeFrom f g s j x) → IsSpanFrom xs f h s e k i j → IsSpanFrom xs g h s e k i j
  span_alike f g s e k i j inside agree span =
      let forward = (span_inside f s e k i j span).0 in let within = span.within in record {
        tree = span.tree;
        listed = span.listed;
        means = same_spans_within f g h s j (omega (arith, inside, within)) span.tree (agree k span.tree span.listed) i j span.from forward
            (omega arith) span.means;
        from = span.from;
        within = within;
      }

  module _ (words : ℕ → Bool) (set : IsWordSet words) where
    abbrev by_words : Looks
    by_words = holds words t h

    -- as the automaton reads looks
    abbrev by_bytes : Looks
    by_bytes = holds_ascii p.forward.nfa.terminator h

    read_words : (s e : ℕ) → e ≤ length h → IsPlainText (read_by by_words h s e)
    read_words s e inside = record { within = inside; bytes = bytes; at_start = λ i. refl; at_end = λ i. refl }

    read_bytes : (s e : ℕ) → e ≤ length h → IsPlainText (read_by by_bytes h s e)
    read_bytes s e inside = record { within = inside; bytes = bytes; at_start = λ i. refl; at_end = λ i. refl }

    -- ---- nothing is found
    module _ (s e : ℕ) (inside : e ≤ length h) (is : half_search r (earliest_search h s e) ≡ found None) where
      abbrev late : Search
      late = with_earliest false (earliest_search h s e)

      late_is : half_search r late ≡ found None
      late_is = none_scan r h (all_count xs t p regex) s e is

      late_first : s ≤ e → IsFirstFound r late by_words a.start_unanchored None
      late_first l =
          let there = scan_has_reach r late None (goes_forward xs t p regex) regex.forward.sound inside late_is in
          there.1.finds.first a.start_unanchored by_words l regex.finds_first refl regex.no_captures refl
          (reads_alike xs t p regex h bytes words set s there.0 there.1.finds.quiet e)

      abbrev wanted : ℕ → Option (ℕ × ℕ) → Type 0
      wanted k o = o ≡ first (ends_by r late by_words a.start_unanchored k)

      none_first : IsFirstFound r late by_words a.start_unanchored None → None ≡ first (ends_in by_words s e)
      none_first (inl there) =
          at_once wanted r late (all_count xs t p regex) there.0 None there.2 there.3
          ∙ ap (λ (k : ℕ). first (ends_from a (read_by by_words h s e) (k, a.start_unanchored)))
          (at_first a.reverse s e (goes_forward xs t p regex))
      none_first (inr all) = absurd (never_split wanted r late 0 (all_count xs t p regex) (all.0 0 (omega arith)))

      pub none_is_meant : HasNoSpan xs by_words h s e
      none_is_meant k i j span =
          let l = (span_inside by_words s e k i j span).1 in
          some_first (ends_in by_words s e) (j, k) (none_first (late_first l))
          (span_is_found by_words s e (read_words s e inside) l k i j span)

    -- ---- a quit byte
    pub quit_is_before : (s e : ℕ) → e ≤ length h → (b x : ℕ) → half_search r (earliest_search h s e) ≡ quit b x →
        NoneEndsBefore xs by_words h s e x
    quit_is_before s e inside b x is k i j span = elim (cases_lt j x) [
      | inr after ↦ after
      | inl before ↦
          let from = span.from in
          let forward = (span_inside by_words s e k i j span).0 in
          let near = scan_quits_near r (earliest_search h s e) b x is in let last = near.3 in
          let m : ℕ = x - suc s in
          let at : x ≡ s + suc m = omega (arith, before, from, forward) in
          let shorter = quit_scan r h (all_count xs t p regex) (goes_forward xs t p regex) s e m b (is ∙ ap (quit b) at) in
          absurd (none_is_meant s (s + m) (omega (arith, inside, last, at)) shorter k i j record {
            tree = span.tree;
            listed = span.listed;
            means = span.means;
            from = from;
            within = omega (arith, before, at);
          })
    ]

    -- ---- an end is found
    module _ (s e : ℕ) (inside : e ≤ length h) (c : ℕ × ℕ) (is : half_search r (earliest_search h s e) ≡ found (Some c)) where
      abbrev q : Search
      q = earliest_search h s e

      begun : s ≤ e
      begun = elim (cases_lt e s) [
        | inr l ↦ l
        | inl past ↦ absurd (some_is_not_none c (sym is ∙ scan_done r q past))
      ]

      abbrev wants : ℕ → Option (ℕ × ℕ) → Type 0
      wants k o = IsWanted r.kind true a.reverse (ends_of r q a.start_unanchored k) o

      wanted_at : IsFound r q a.start_unanchored (Some c) → wants 0 (Some c)
      wanted_at (inl there) = at_once wants r q (all_count xs t p regex) there.0 (Some c) there.2 there.3
      wanted_at (inr all) = absurd (never_split wants r q 0 (all_count xs t p regex) (all.0 0 (omega arith)))

      nearest : IsNearestEnd a.reverse (ends_in by_bytes s e) (Some c)
      nearest =
          let P : ℕ → Type 0 = λ k. IsNearestEnd a.reverse (ends_from a (read_by by_bytes h s e) (k, a.start_unanchored)) (Some c) in
          subst P (at_first a.reverse s e (goes_forward xs t p regex))
          (wanted_is_nearest r.kind a.reverse (ends_of r q a.start_unanchored 0) (Some c)
          (wanted_at (scan_finds r q a.start_unanchored regex.forward.sound.named begun inside refl regex.forward.sound.unanchored
          (Some c) is)))

      reached : HasReach r q (Some c)
      reached = scan_has_reach r q (Some c) (goes_forward xs t p regex) regex.forward.sound inside is

      -- up to there looks are read alike
      agree : (j : ℕ) → j ≤ c.0 → (k : ℕ) (x : Tree) → slice_get xs k ≡ Some x → AgreeFrom by_bytes by_words s j x
      agree j low k x listed =
          let past = reached.1.finds.past c refl in
          trees_alike xs t p regex h bytes words set s reached.0 reached.1.finds.quiet j (omega (arith, low, past)) k x listed

      agree_back : (j : ℕ) → j ≤ c.0 → (k : ℕ) (x : Tree) → slice_get xs k ≡ Some x → AgreeFrom by_words by_bytes s j x
      agree_back j low k x listed l used i from to = sym (agree j low k x listed l used i from to)

      least : NoneEndsBefore xs by_words h s e c.0
      least k i j span = elim (cases_lt j c.0) [
        | inr after ↦ after
        | inl before ↦
            let there = span_is_found by_bytes s e (read_bytes s e inside) begun k i j
            (span_alike by_words by_bytes s e k i j inside (agree_back j (omega (arith, before))) span) in
            let differ : true ≡ false =
            sym (not_past a.reverse c.0 j (goes_forward xs t p regex) before) ∙ nearest.1 (j, k) there in
            absurd (grind (arith, differ))
      ]

      pub end_is_least : IsLeastEnd xs by_words h s e c.1 c.0
      end_is_least =
          let span = found_is_span by_bytes s e (read_bytes s e inside) begun c (best_has (ends_in by_bytes s e) c nearest.0) in record {
            start = span.0;
            span = span_alike by_bytes by_words s e c.1 span.0 c.0 inside (agree c.0 (omega arith)) span.1;
            least = least;
          }

    -- ---- what is found
    pub found_is_earliest : (s e : ℕ) → e ≤ length h → (o : Option (ℕ × ℕ)) → half_search r (earliest_search h s e) ≡ found o →
        IsEarliest xs by_words h s e (half_of o)
    found_is_earliest s e inside None is = none_is_meant s e inside is
    found_is_earliest s e inside (Some c) is = end_is_least s e inside c is
