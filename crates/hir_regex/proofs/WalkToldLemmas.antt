-- Each end that an overlapping search reports lies at an offset up to which it read no quit byte, whether an error comes after it or not.
-- So it is meant with any set of words, if it is meant by ASCII bytes.
use Rattle.std.proofs.Common.{◌≡◌, ℕ, zero, suc, ◌+◌, ◌-◌, ◌<◌, ◌≤◌, Bool, true, false, List, [], map, length, slice_get, Option, Some}
use Rattle.std.proofs.Common.{None, All, refl, sym, ap, ◌∙◌, inl, inr, ⊎_elim, subst, arith, if◌then◌else◌}
use Rattle.std.proofs.lemmas.Bool.{cases_Bool, cases_lt}
use Rattle.search_core.specs.ByteSets.{has}
use Rattle.search_core.specs.Text.{byte_at, byte_before}
use Rattle.look_core.specs.declared.look.Look.{Look}
use Rattle.look_core.specs.Codes.{is_word_unicode}
use Rattle.look_core.specs.LookSets.{has_look}
use Rattle.look_core.specs.Looks.{holds, holds_ascii, IsWordSet}
use Rattle.look_core.specs.Terminators.{Terminator}
use Rattle.hir_core.specs.Facts.{looks_used}
use Rattle.hir_core.specs.Tree.{Tree}
use Rattle.search_types.specs.declared.anchored.Anchored.{Anchored}
use Rattle.search_types.specs.declared.match_error.MatchErrorKind.TheVariants.{Quit}
use Rattle.search_types.specs.Inputs.{Search}
use Rattle.search_types.specs.Modes.{is_supported}
use Rattle.search_types.specs.Places.{counts}
use Rattle.nfa_core.specs.Places.{same_pair}
use Rattle.nfa_core.specs.Walks.{Has}
use Rattle.nfa_core.specs.Ways.{offset_of}
use Rattle.nfa_core.proofs.ForCallers.{none_in, of_append, pairs_equal}
use Rattle.thompson_nfa.specs.Compiled.{turned}
use Rattle.thompson_nfa.specs.Configs.{reverse_of}
use Rattle.thompson_nfa.proofs.ForCallers.{looks_are_used}
use Rattle.determinize_core.specs.States.{StateValue}
use Rattle.determinize_core.specs.Steps.{value_after, unit_at, unit_before}
use Rattle.lazy_dfa.specs.Dfas.{Dfa, reader}
use Rattle.lazy_dfa.specs.Scans.{is_dead, index_at, index_before_offset, next_value, first_value}
use Rattle.lazy_dfa.specs.Quits.{has_unicode_word}
use Rattle.lazy_dfa.specs.Readers.{Reader, is_quit}
use Rattle.lazy_dfa.specs.HalfSearches.{first_offset}
use Rattle.lazy_dfa.specs.HalfSearchLaws.{begins_at}
use Rattle.lazy_dfa.specs.Overlapping.{Rest, nothing_left, refused, onto, unless_quit_at, where_supported, end_of, listed, rest_from}
use Rattle.lazy_dfa.specs.Overlapping.{whole_rest}
use Rattle.lazy_dfa.specs.OverlappingLaws.{IsBegun}
use Rattle.hir_regex.specs.OverlappingTrees.{IsOverlappingDfa}
use Rattle.hir_regex.proofs.TreeToldLemmas.{read_low, read_high, AgreeUpTo}
use Rattle.hir_regex.proofs.WalkLookLemmas.{beside, read_alike, asks_for_words}
use Rattle.hir_regex.proofs.WalkReadLemmas.{IsQuiet, more, turn_is, more_is, unit_behind_next, reverse_inside, IsQuietBeside, whole_is}
use Rattle.hir_regex.proofs.WalkReadLemmas.{start_is, behind_there}
use Rattle.lazy_dfa.proofs.ForCallers.{mapped_there}
use Rattle.hir_regex.proofs.BuiltLemmas.{words_either_way, turned_twice}

-- ---- a unit

unit_tells : (quits : List Bool) (u : Option ℕ) (index : ℕ) (rest : Rest) (x : ℕ × ℕ) →
    Has same_pair x (unless_quit_at quits u index rest).ends →
    (is_quit quits u ≡ false) × Has same_pair x rest.ends
unit_tells quits None index rest x there = (refl, there)
unit_tells quits (Some b) index rest x there = ⊎_elim
    (λ (e : has quits b ≡ true).
    none_in same_pair x _ (subst (λ (c : Bool). Has same_pair x (if c then refused (Quit b index) else rest).ends) e there))
    (λ (e : has quits b ≡ false). (e, subst (λ (c : Bool). Has same_pair x (if c then refused (Quit b index) else rest).ends) e there))
    (cases_Bool (has quits b))

goes_tells : (stops : Bool) (rest : Rest) (x : ℕ × ℕ) → Has same_pair x (if stops then nothing_left else rest).ends →
    Has same_pair x rest.ends
goes_tells true rest x there = none_in same_pair x _ there
goes_tells false rest x there = there

mode_tells : (fit : Bool) (mode : Anchored) (rest : Rest) (x : ℕ × ℕ) → Has same_pair x (where_supported fit mode rest).ends →
    Has same_pair x rest.ends
mode_tells true mode rest x there = there
mode_tells false mode rest x there = none_in same_pair x _ there

listed_at : (c : Bool) (i : ℕ) (ms : List ℕ) (x : ℕ × ℕ) → Has same_pair x (if c then map (end_of i) ms else []) → x.0 ≡ i
listed_at true i ms x there = mapped_there i ms x there
listed_at false i ms x there = none_in same_pair x _ there

-- ---- an overlapping search from an offset

module _ (r : Reader) (h : List ℕ) (i q : ℕ) where
  abbrev place : ℕ → ℕ
  place k = offset_of r.automaton.reverse i k

  abbrev state : ℕ → StateValue
  state k = value_after r.automaton r.terminator r.kind h i q k

  -- an end lies after so many units, of which none is a quit byte, nor is the one at its offset
  abbrev IsToldPast : ℕ → ℕ → ℕ × ℕ → Type 0
  IsToldPast n k x = (m : ℕ) × ((k ≤ m) × (m < k + n) × (x.0 ≡ place m) × ((j : ℕ) → k ≤ j → j ≤ m → IsQuiet r h i q j))

  rest_zero : (k : ℕ) → rest_from r h 0 (place k) (state k) ≡ nothing_left
  unfolding rest_from
  rest_zero k = refl

  told_past : (n k : ℕ) (x : ℕ × ℕ) → Has same_pair x (rest_from r h n (place k) (state k)).ends → IsToldPast n k x
  told_past zero k x there = none_in same_pair x _ (subst (λ (z : Rest). Has same_pair x z.ends) (rest_zero k) there)
  told_past (suc n) k x there =
      let next : List ℕ = (next_value r h (place k) (state k)).matches in
      let read = unit_tells r.quits (unit_at r.automaton.reverse h (place k)) (index_at r.automaton.reverse (place k))
      (onto (listed (counts r.between_characters h) (place k) next) (more r h i q n k)) x
      (goes_tells (is_dead (state k)) _ x (subst (λ (z : Rest). Has same_pair x z.ends) (turn_is r h i q n k) there)) in
      of_append same_pair pairs_equal (IsToldPast (suc n) k) (listed (counts r.between_characters h) (place k) next) (more r h i q n k).ends
      (λ y here. (
        k,
        (
          omega arith,
          omega arith,
          listed_at (counts r.between_characters h (place k)) (place k) next y here,
          λ j low high. let same : k ≡ j = omega (arith, low, high) in subst (IsQuiet r h i q) same read.0,
        ),
      ))
      (λ y later.
      let t = told_past n (suc k) y (subst (λ (z : Rest). Has same_pair y z.ends) (more_is r h i q n k) later) in
      let low = t.1.0 in let high = t.1.1 in (
        t.0,
        (
          omega (arith, low),
          omega (arith, high),
          t.1.2,
          λ j from to. elim (cases_lt k j) [
            | inl lt ↦ t.1.3 j lt to
            | inr ge ↦ let same : k ≡ j = omega (arith, from, ge) in subst (IsQuiet r h i q) same read.0
          ],
        ),
      ))
      x read.1

-- ---- whole overlapping searches

-- the offsets up to one that is read are offsets after bytes that are read before
place_before : (b : Bool) (s e m i j : ℕ) → j ≡ offset_of b (first_offset b s e) m → read_low b s j ≤ i → i ≤ read_high b e j →
    (k : ℕ) × ((k ≤ m) × (i ≡ offset_of b (first_offset b s e) k))
place_before false s e m i j at low high = (i - s, (omega (arith, at, low, high), omega (arith, low)))
place_before true s e m i j at low high = (e - i, (omega (arith, at, low, high), omega (arith, high)))

module _ (r : Reader) (q : Search) (name : ℕ) (begun : IsBegun r q name) where
  abbrev begin : ℕ
  begin = begins_at r q

  -- no quit bytes are next to the offsets of the overlapping search up to the offset of this end
  abbrev IsToldQuietly : ℕ × ℕ → Type 0
  IsToldQuietly x = (m : ℕ) × ((x.0 ≡ offset_of r.automaton.reverse begin m) × ((k : ℕ) → k ≤ m → IsQuietBeside r q.haystack begin name k))

  module _ (m : ℕ) (few : m < suc (q.end - q.start)) (behind : is_quit r.quits (unit_before r.automaton.reverse q.haystack begin) ≡ false)
      (quiet : (j : ℕ) → 0 ≤ j → j ≤ m → IsQuiet r q.haystack begin name j) where
    back_quiet : (k : ℕ) → k ≤ m → is_quit r.quits (unit_before r.automaton.reverse q.haystack (offset_of r.automaton.reverse begin k)) ≡
        false
    back_quiet zero l = behind_there r q name begun behind
    back_quiet (suc k) l =
        ap (is_quit r.quits) (unit_behind_next r.automaton.reverse q.haystack begin k
        (λ is_reverse. let far = reverse_inside r.automaton.reverse q.start q.end is_reverse in omega (arith, far, l, few)))
        ∙ quiet k (omega arith) (omega (arith, l))

    quiet_beside : (k : ℕ) → k ≤ m → IsQuietBeside r q.haystack begin name k
    quiet_beside k l = (quiet k (omega arith) l, back_quiet k l)

  told_quietly : (x : ℕ × ℕ) → Has same_pair x (whole_rest r q).ends → IsToldQuietly x
  told_quietly x there =
      let mode : Rest = where_supported (is_supported r.starts_for_each_pattern q.anchored) q.anchored
      (rest_from r q.haystack (suc (q.end - q.start)) begin (first_value r q.anchored q.haystack begin)) in
      let read = unit_tells r.quits (unit_before r.automaton.reverse q.haystack begin) (index_before_offset r.automaton.reverse begin) mode
      x
      (subst (λ (z : Rest). Has same_pair x z.ends) (whole_is r q name begun) there) in
      let t = told_past r q.haystack begin name (suc (q.end - q.start)) 0 x
      (subst (λ (z : Rest). Has same_pair x z.ends) (start_is r q name begun)
      (mode_tells (is_supported r.starts_for_each_pattern q.anchored) q.anchored _ x read.1)) in
      let few = t.1.1 in
      (t.0, (t.1.2, quiet_beside t.0 (omega (arith, few)) read.0 t.1.3))

-- ---- looks of trees

module _ (xs : List Tree) (b utf8 : Bool) (t : Terminator) (d : Dfa) (w : IsOverlappingDfa xs b utf8 t d) (q : Search)
    (bytes : All (λ byte. byte < 256) q.haystack) (within : q.end ≤ length q.haystack) (name : ℕ) (begun : IsBegun (reader d) q name)
    (words : ℕ → Bool) (set : IsWordSet words) where
  tree_asks : (k : ℕ) (y : Tree) (l : Look) → slice_get xs k ≡ Some y → has_look (looks_used y) l ≡ true → is_word_unicode l ≡ true →
      has_unicode_word d.nfa.automaton ≡ true
  tree_asks k y l listed used unicode =
      asks_for_words d w.dfa q.haystack bytes t words set (turned (reverse_of w.options) l)
      ((looks_are_used w.options xs d.nfa w.compiled (turned (reverse_of w.options) l)).1
      (k, y, listed, ap (has_look (looks_used y)) (turned_twice (reverse_of w.options) l) ∙ used))
      (words_either_way (reverse_of w.options) l ∙ unicode)

  -- up to the offset of an end that is reported the looks of trees are read alike
  agree_up_to : (x : ℕ × ℕ) → IsToldQuietly (reader d) q name begun x →
      AgreeUpTo xs utf8 q within (holds_ascii t q.haystack) (holds words t q.haystack) d.nfa.automaton.reverse x.0
  agree_up_to x reported k y listed l used i low high =
      let at = place_before d.nfa.automaton.reverse q.start q.end reported.0 i x.0 reported.1.0 low high in
      let quiet = reported.1.1 at.0 at.1.0 in
      let sides = beside d.nfa.automaton.reverse d.quits q.haystack (offset_of d.nfa.automaton.reverse (begins_at (reader d) q) at.0)
      quiet.0 quiet.1 in
      let same = sym at.1.1 in
      read_alike d w.dfa q.haystack bytes t words set i
      (subst (λ (j : ℕ). is_quit d.quits (byte_before q.haystack j) ≡ false) same sides.0)
      (subst (λ (j : ℕ). is_quit d.quits (byte_at q.haystack j) ≡ false) same sides.1)
      l (tree_asks k y l listed used)

  pub told_agree : (x : ℕ × ℕ) → Has same_pair x (whole_rest (reader d) q).ends →
      AgreeUpTo xs utf8 q within (holds_ascii t q.haystack) (holds words t q.haystack) b x.0
  told_agree x there =
      let P : Bool → Type 0 = λ c. AgreeUpTo xs utf8 q within (holds_ascii t q.haystack) (holds words t q.haystack) c x.0 in
      subst P (w.compiled.reverse ∙ w.reads) (agree_up_to x (told_quietly (reader d) q name begun x there))
