-- The search in reverse from an end that was found finds the least start of a span that ends there. It meets no quit byte, as the
-- search forward met none.
use Rattle.std.proofs.Common.{◌≡◌, ◌↔◌, ℕ, ◌<◌, ◌≤◌, Bool, true, false, ◌&&◌, cond, List, [], ◌∷◌, length, slice_get, nat_eq, Option, Some}
use Rattle.std.proofs.Common.{None, refl, sym, ap, ◌∙◌, subst, inl, inr, arith}
use Rattle.std.specs.List.{filter}
use Rattle.std.proofs.lemmas.Bool.{cases_lt, cases_Bool, lt-ltb}
use Rattle.search_core.specs.ByteSets.{has}
use Rattle.search_core.specs.Text.{byte_at}
use Rattle.look_core.specs.Looks.{holds, holds_ascii, IsWordSet}
use Rattle.look_core.specs.Terminators.{Terminator}
use Rattle.hir_core.specs.Tree.{Tree}
use Rattle.hir_core.specs.Means.{Looks}
use Rattle.hir_core.specs.Agree.{AgreeFrom}
use Rattle.hir_core.proofs.ForCallers.{span_forward, same_spans_within}
use Rattle.search_types.specs.declared.anchored.Anchored.{Anchored}
use Rattle.search_types.specs.declared.match_kind.MatchKind.{MatchKind}
use Rattle.search_types.specs.declared.match_kind.MatchKind.TheVariants.{All as AllMatches}
use Rattle.search_types.specs.Inputs.{Search}
use Rattle.search_types.specs.Places.{counts}
use Rattle.nfa_core.specs.Walks.{Has}
use Rattle.nfa_core.specs.Nfa.{Automaton}
use Rattle.nfa_core.specs.NfaValue.{has_empty}
use Rattle.nfa_core.specs.Places.{same_pair, first}
use Rattle.nfa_core.specs.Ways.{span, offset_of, ends_from}
use Rattle.nfa_core.proofs.ForCallers.{has_same, has_later, pairs_equal}
use Rattle.thompson_nfa.specs.Compilations.{IsChoice}
use Rattle.lazy_dfa.specs.Dfas.{reader}
use Rattle.lazy_dfa.specs.ScanLaws.{is_past, best_at, IsLastEnd}
use Rattle.lazy_dfa.specs.Readers.{Reader, HalfAnswer, found, quit, unsupported, is_quit}
use Rattle.lazy_dfa.specs.HalfSearches.{first_offset, half_search}
use Rattle.lazy_dfa.specs.HalfSearchLaws.{IsWanted, IsSplitBy, IsFound, ends_of}
use Rattle.lazy_dfa.proofs.ForCallers.{scan_finds, scan_quits_near, scan_mode_told}
use Rattle.regex_pair.specs.Joined.{back_from}
use Rattle.regex_pair.specs.Pairs.{Pair}
use Rattle.hir_regex.specs.Choices.{Query}
use Rattle.hir_regex.specs.LooseAnswers.{MeansSpan}
use Rattle.hir_regex.specs.Regexes.{IsRegexOf, IsSearchOf, query_of}
use Rattle.hir_regex.proofs.LooseEndLemmas.{holds_none}
use Rattle.hir_regex.proofs.RegexLemmas.{goes_reverse, reverse_ends_lines, reverse_is_utf8, place_reverse, trees_alike}
use Rattle.hir_regex.proofs.ForwardLemmas.{reach}

-- i is the least offset, from s on, from which a pattern has a span that ends where this end is, and it counts
pub record IsLeastStart (q : Query) (s : ℕ) (c : ℕ × ℕ) (i : ℕ) : Type 0 where
  pub span : MeansSpan q c.1 i c.0
  pub from : s ≤ i
  pub forward : i ≤ c.0
  pub within : c.0 ≤ q.end
  pub counted : counts q.utf8 q.haystack i ≡ true
  pub least : (k p : ℕ) → s ≤ k → MeansSpan q p k c.0 → i ≤ k

-- ---- the last end
filter_first : (j : ℕ) (x : ℕ × ℕ) (xs : List (ℕ × ℕ)) (b : Bool) → nat_eq x.0 j ≡ b →
    best_at (x ∷ xs) j ≡ first (cond b (x ∷ filter (λ (y : ℕ × ℕ). nat_eq y.0 j) xs) (filter (λ (y : ℕ × ℕ). nat_eq y.0 j) xs))
filter_first j x xs b is =
    ap (λ c. first (cond c (x ∷ filter (λ (y : ℕ × ℕ). nat_eq y.0 j) xs) (filter (λ (y : ℕ × ℕ). nat_eq y.0 j) xs))) is

pub best_has : (ends : List (ℕ × ℕ)) (j : ℕ) (e : ℕ × ℕ) → best_at ends j ≡ Some e → Has same_pair e ends
best_has [] j e is = cc
best_has (x ∷ xs) j e is = elim (cases_Bool (nat_eq x.0 j)) [
  | inl here ↦
      let one : Some x ≡ Some e = sym (filter_first j x xs true here) ∙ is in
      has_same same_pair pairs_equal e x xs (sym (some_pair x e one))
  | inr other ↦ has_later same_pair e x xs (best_has xs j e (sym (filter_first j x xs false other) ∙ is))
]
  where
    some_pair : (x e : ℕ × ℕ) → Some x ≡ Some e → x ≡ e
    some_pair x e one = cc

pub not_past : (i j : ℕ) → is_past true i j ≡ false → j ≤ i
not_past i j e = elim (cases_lt i j) [
  | inl lt ↦ let differ : true ≡ false = sym (lt-ltb i j lt) ∙ e in cc
  | inr ge ↦ ge
]

counts_so : (u v : Bool) (h : List ℕ) (i : ℕ) → counts u h i ≡ true → counts (u && v) h i ≡ true
counts_so true true h i t = t
counts_so true false h i t = refl
counts_so false v h i t = refl

wanted_all : (kind : MatchKind) (is_reverse : Bool) (ends : List (ℕ × ℕ)) (o : Option (ℕ × ℕ)) → kind ≡ AllMatches → is_reverse ≡ true →
    IsWanted kind false is_reverse ends o → IsLastEnd true ends o
wanted_all kind is_reverse ends o is_all reads_back wanted =
    let P : MatchKind → Type 0 = λ k. IsWanted k false is_reverse ends o in
    let R : Bool → Type 0 = λ b. IsLastEnd b ends o in
    subst R reads_back (subst P is_all wanted)

module _ (xs : List Tree) (utf8 : Bool) (t : Terminator) (p : Pair) (regex : IsRegexOf xs utf8 t p) (q : Search)
    (asked : IsSearchOf xs utf8 q)
    (words : ℕ → Bool) (set : IsWordSet words) (c : ℕ × ℕ) (is : half_search (reader p.forward) q ≡ found (Some c)) (i : ℕ)
    (start : IsLeastStart (query_of xs utf8 (holds words t q.haystack) q) q.start c i) where
  abbrev r : Reader
  r = reader p.reverse

  abbrev m : Automaton
  m = p.reverse.nfa.automaton

  abbrev looks : Looks
  looks = holds words t q.haystack

  abbrev asks : Query
  asks = query_of xs utf8 looks q

  abbrev back : Search
  back = back_from q c.0

  low : q.start ≤ c.0
  low = let from = start.from in let forward = start.forward in omega arith

  inside : c.0 ≤ length q.haystack
  inside = let within = start.within in omega (arith, asked.within)

  -- ---- what the search forward read
  agrees : (k : ℕ) (x : Tree) → slice_get xs k ≡ Some x → AgreeFrom (holds_ascii t q.haystack) looks q.start c.0 x
  agrees k x listed =
      let far = reach xs utf8 t p regex q asked words set (Some c) is in
      trees_alike xs utf8 t p regex q.haystack asked.bytes words set q.start far.0 far.1.finds.quiet c.0 (far.1.finds.past c refl) k x listed

  agrees_back : (k : ℕ) (x : Tree) → slice_get xs k ≡ Some x → AgreeFrom looks (holds_ascii t q.haystack) q.start c.0 x
  agrees_back k x listed l used at above below = sym (agrees k x listed l used at above below)

  pub never_quits : (b x : ℕ) → half_search r back ≡ quit b x → ⊥
  never_quits b x e =
      let far = reach xs utf8 t p regex q asked words set (Some c) is in
      let near = scan_quits_near r back b x e in
      let past : c.0 < far.0 = far.1.finds.past c refl in
      let above = near.2 in let below = near.3 in
      let quiet : is_quit p.forward.quits (byte_at q.haystack x) ≡ false = far.1.finds.quiet x above (omega arith) in
      let here : has p.forward.quits b ≡ true = ap (λ quits. has quits b) (sym regex.same_quits) ∙ near.1 in
      let differ : true ≡ false = sym here ∙ ap (is_quit p.forward.quits) (sym near.0) ∙ quiet in cc

  pub is_never_unsupported : (mode : Anchored) → half_search r back ≡ unsupported mode → ⊥
  is_never_unsupported mode e = let reported = scan_mode_told r back mode e in let differ : true ≡ false = reported.2 in cc

  -- ---- spans that end there
  abbrev ends : List (ℕ × ℕ)
  ends = ends_from m (span t q.haystack q.start c.0) (c.0, m.start_anchored)

  both_ways : (k j : ℕ) → Has same_pair (j, k) ends ↔ IsChoice true xs (span t q.haystack q.start c.0) c.0 (j, k)
  both_ways k j =
      let P : Bool → Type 0 = λ b. Has same_pair (j, k) ends ↔ IsChoice b xs (span t q.haystack q.start c.0) c.0 (j, k) in
      subst P regex.reads_reverse (regex.is_reverse.spans.anchored (span t q.haystack q.start c.0) c.0 (j, k) (omega arith))

  has_span : (k j : ℕ) → Has same_pair (j, k) ends → MeansSpan asks k j c.0 × (q.start ≤ j)
  has_span k j has =
      let f = (both_ways k j).0 has in
      let last = f.2.1 in
      let above = low in
      let at : q.start ≤ j = omega arith in
      let up : j ≤ c.0 = span_forward (holds_ascii t q.haystack) q.haystack f.0 j c.0 f.2.0 in (
        record {
          tree = f.0;
          listed = f.1;
          means = same_spans_within (holds_ascii t q.haystack) looks q.haystack q.start c.0 inside f.0 (agrees k f.0 f.1) j c.0 at up
              (omega arith) f.2.0;
        },
        at,
      )

  span_has : (k j : ℕ) → q.start ≤ j → MeansSpan asks k j c.0 → Has same_pair (j, k) ends
  span_has k j at s =
      let up : j ≤ c.0 = span_forward looks q.haystack s.tree j c.0 s.means in
      (both_ways k j).1 (
        s.tree,
        s.listed,
        (
          same_spans_within looks (holds_ascii t q.haystack) q.haystack q.start c.0 inside s.tree
              (agrees_back k s.tree s.listed) j c.0 at up (omega arith) s.means,
          omega arith,
        ),
      )

  -- ---- what is found
  last_is_least : (d : ℕ × ℕ) → IsLastEnd true ends (Some d) → d.0 ≡ i
  last_is_least d last =
      let at = has_span d.1 d.0 (best_has ends d.0 d last.0) in
      let least : i ≤ d.0 = start.least d.0 d.1 at.1 at.0 in
      let most : d.0 ≤ i = not_past i d.0 (last.1 (i, c.1) (span_has c.1 i start.from start.span)) in
      omega arith

  some_last : IsLastEnd true ends None → ⊥
  some_last none = holds_none ends (i, c.1) none (span_has c.1 i start.from start.span)

  last_end : (k : ℕ) (o : Option (ℕ × ℕ)) → k ≡ 0 → IsWanted r.kind false m.reverse (ends_of r back m.start_anchored k) o →
      IsLastEnd true ends o
  last_end k o none wanted =
      let at : offset_of m.reverse (first_offset m.reverse q.start c.0) 0 ≡ c.0 =
      place_reverse m.reverse q.start c.0 (goes_reverse xs utf8 t p regex) in
      let same : ends_of r back m.start_anchored k ≡ ends =
      ap (ends_of r back m.start_anchored) none
      ∙ ap (λ j. ends_from m (span p.reverse.nfa.terminator q.haystack q.start c.0) (j, m.start_anchored)) at
      ∙ ap (λ z. ends_from m (span z q.haystack q.start c.0) (c.0, m.start_anchored)) (reverse_ends_lines xs utf8 t p regex) in
      let P : List (ℕ × ℕ) → Type 0 = λ l. IsWanted r.kind false m.reverse l o in
      wanted_all r.kind m.reverse ends o regex.finds_all (goes_reverse xs utf8 t p regex) (subst P same wanted)

  start_counts : counts r.between_characters q.haystack i ≡ true
  start_counts =
      counts_so p.reverse.nfa.utf8 (has_empty m) q.haystack i
      (ap (λ b. counts b q.haystack i) (reverse_is_utf8 xs utf8 t p regex) ∙ start.counted)

  never_split : IsSplitBy (λ k x. IsWanted r.kind false m.reverse (ends_of r back m.start_anchored k) x) r back 0 → ⊥
  never_split split =
      let here : split.0.0 ≡ i = last_is_least split.0 (last_end 0 (Some split.0) refl split.1) in
      let differ : true ≡ false = sym start_counts ∙ ap (counts r.between_characters q.haystack) (sym here) ∙ split.2 in cc

  abbrev Starts : Option (ℕ × ℕ) → Type 0
  Starts o = (d : ℕ × ℕ) × (o ≡ Some d) × (d.0 ≡ i)

  starts_of : (o : Option (ℕ × ℕ)) → IsLastEnd true ends o → Starts o
  starts_of None none = absurd (some_last none)
  starts_of (Some d) last = (d, refl, last_is_least d last)

  starts_by : (o : Option (ℕ × ℕ)) → IsFound r back m.start_anchored o → Starts o
  starts_by o (inl there) = starts_of o (last_end there.0 o (let few = there.1 in omega arith) there.3)
  starts_by o (inr all) = absurd (never_split (all.0 0 (omega arith)))

  back_starts : (o : Option (ℕ × ℕ)) → half_search r back ≡ found o → Starts o
  back_starts o e = starts_by o
      (scan_finds r back m.start_anchored regex.reverse.sound.named low inside refl regex.reverse.sound.anchored o e)

  -- the search back finds a start, and it is this one
  by_answer : (x : HalfAnswer) → half_search r back ≡ x → (d : ℕ × ℕ) × (half_search r back ≡ found (Some d)) × (d.0 ≡ i)
  by_answer (found o) e = let s = back_starts o e in (s.0, e ∙ ap found s.1, s.2)
  by_answer (quit b x) e = absurd (never_quits b x e)
  by_answer (unsupported mode) e = absurd (is_never_unsupported mode e)

  pub back_finds : (d : ℕ × ℕ) × (half_search r back ≡ found (Some d)) × (d.0 ≡ i)
  back_finds = by_answer (half_search r back) refl
