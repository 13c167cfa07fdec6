-- What a class of scalars means if it is read in reverse by sequences that were turned round: the strings of these are its spellings, with
-- the last bytes first.
use Rattle.std.proofs.Common.{◌≡◌, inl, inr, ℕ, suc, ◌+◌, ◌≤◌, Bool, true, false, ◌&&◌, ◌||◌, leb, List, [], ◌∷◌, ◌++◌, map, reverse}
use Rattle.std.proofs.Common.{length, slice_get, Some, refl, sym, ap, ◌∙◌, arith, subst}
use Rattle.std.proofs.lemmas.Bool.{false≢true, true≢false}
use Rattle.std.proofs.lemmas.List.{reverse-append, reverse-reverse, length-reverse}
use Rattle.hir_core.specs.Tree.{char_class, alternation}
use Rattle.hir_core.specs.Facts.{LoopsRead}
use Rattle.hir_core.specs.Means.{Looks, Means, is_member}
use Rattle.hir_core.specs.Sequences.{is_in_ranges}
use Rattle.hir_core.specs.BySequences.{sequence_tree, range_tree, sequences_of}
use Rattle.hir_core.proofs.ForCallers.{class_to_sequences, sequences_to_class, member_of_one}
use Rattle.nfa_core.specs.Drafted.{Table}
use Rattle.thompson_nfa.specs.Denotes.{Denotes}
use Rattle.thompson_nfa.specs.RangeTries.{IsInSome}
use Rattle.thompson_nfa.specs.ClassTries.{HasTurned}
use Rattle.thompson_nfa.specs.Shared.{read_tree}
use Rattle.thompson_nfa.proofs.Walks.DenoteLemmas.{denotes_like_meaning}
use Rattle.thompson_nfa.proofs.Tries.TrieLemmas.{spelled, spells}
use Rattle.thompson_nfa.proofs.Classes.TurnedStrings.{in_turned_round, turned_round_in}

-- h has the bytes at offset i
abbrev StandsAt : List ℕ → ℕ → List ℕ → Type 0
StandsAt h i [] = Unit {0}
StandsAt h i (b ∷ s) = (slice_get h i ≡ Some b) × StandsAt h (i + 1) s

one_on : (i n : ℕ) → i + 1 + n ≡ i + suc n
one_on i n = omega arith

stands_push : (h : List ℕ) (i b : ℕ) (s : List ℕ) → StandsAt h i s → slice_get h (i + length s) ≡ Some b → StandsAt h i (s ++ b ∷ [])
stands_push h i b [] f e = (let same : i + 0 ≡ i = omega arith in ap (slice_get h) (sym same) ∙ e, tt)
stands_push h i b (x ∷ s) f e = (
  f.0,
  stands_push h (i + 1) b s f.1 (let same : i + 1 + length s ≡ i + length (x ∷ s) = omega arith in
      ap (slice_get h) same ∙ e),
)

stands_parts : (h : List ℕ) (i b : ℕ) (s : List ℕ) → StandsAt h i (s ++ b ∷ []) → StandsAt h i s × (slice_get h (i + length s) ≡ Some b)
stands_parts h i b [] f = (tt, let same : i + 0 ≡ i = omega arith in ap (slice_get h) same ∙ f.0)
stands_parts h i b (x ∷ s) f =
    let p = stands_parts h (i + 1) b s f.1 in
    let same : i + 1 + length s ≡ i + length (x ∷ s) = omega arith in
    ((f.0, p.0), ap (slice_get h) (sym same) ∙ p.1)

one_range : (r : ℕ × ℕ) (b : ℕ) → is_in_ranges (r ∷ []) (b ∷ []) ≡ true → is_member (r ∷ []) b ≡ true
one_range r b e = same (leb r.0 b && leb b r.1) e
  where
    same : (t : Bool) → (t && true) ≡ true → (t || false) ≡ true
    same true e = refl
    same false e = e

module _ (looks : Looks) (h : List ℕ) where
  range_read : (r : ℕ × ℕ) (i j : ℕ) → Means looks h (range_tree r) i j → (b : ℕ) × (r.0 ≤ b) × (b ≤ r.1) × (slice_get h i ≡ Some b) ×
      (j ≡ i + 1)
  range_read r i j m = let g = member_of_one r m.1 m.3 in (m.1, g.0, g.1, m.2, m.0)

  read_range : (r : ℕ × ℕ) (i b : ℕ) → r.0 ≤ b → b ≤ r.1 → slice_get h i ≡ Some b → Means looks h (range_tree r) i (i + 1)
  read_range r i b l m e = (refl, b, e, one_range r b (spells r [] b [] l m refl))

  -- ---- a sequence read from its first range on

  abbrev ReadsFirst : List (ℕ × ℕ) → ℕ → ℕ → Type 0
  ReadsFirst q i j = (s : List ℕ) × (is_in_ranges q s ≡ true) × StandsAt h i s × (j ≡ i + length s)

  sequence_reads : (q : List (ℕ × ℕ)) (i j : ℕ) → Means looks h (sequence_tree q) i j → ReadsFirst q i j
  sequence_reads [] i j m = ([], refl, tt, let same : i + 0 ≡ i = omega arith in sym m ∙ sym same)
  sequence_reads (r ∷ q) i j m =
      let one = range_read r i m.0 m.1 in
      let rest = sequence_reads q (i + 1) j (subst (λ (k : ℕ). Means looks h (sequence_tree q) k j) one.4 m.2) in
      (one.0 ∷ rest.0, spells r q one.0 rest.0 one.1 one.2 rest.1, (one.3, rest.2), rest.3 ∙ one_on i (length rest.0))

  reads_sequence : (q : List (ℕ × ℕ)) (s : List ℕ) (i : ℕ) → is_in_ranges q s ≡ true → StandsAt h i s →
      Means looks h (sequence_tree q) i (i + length s)
  reads_sequence [] [] i e f = let same : i ≡ i + 0 = omega arith in same
  reads_sequence [] (b ∷ s) i e f = absurd (false≢true e)
  reads_sequence (r ∷ q) [] i e f = absurd (false≢true e)
  reads_sequence (r ∷ q) (b ∷ s) i e f =
      let p = spelled r q b s e in (
        i + 1,
        read_range r i b p.0 p.1 f.0,
        subst (λ (k : ℕ). Means looks h (sequence_tree q) (i + 1) k) (one_on i (length s))
            (reads_sequence q s (i + 1) p.2 f.1),
      )

  -- ---- a sequence read from its last range on

  abbrev ReadsLast : List (ℕ × ℕ) → ℕ → ℕ → Type 0
  ReadsLast q i j = (u : List ℕ) × (is_in_ranges q u ≡ true) × StandsAt h i (reverse u) × (j ≡ i + length u)

  tree_reads : (q : List (ℕ × ℕ)) (i j : ℕ) → Means looks h (read_tree true q) i j → ReadsLast q i j
  tree_reads [] i j m = ([], refl, tt, let same : i + 0 ≡ i = omega arith in sym m ∙ sym same)
  tree_reads (r ∷ q) i j m =
      let rest = tree_reads q i m.0 m.1 in
      let one = range_read r m.0 j m.2 in
      let long = length-reverse rest.0 in
      let place : m.0 ≡ i + length (reverse rest.0) = rest.3 ∙ ap (λ n. i + n) (sym long) in
      let end : j ≡ i + length (one.0 ∷ rest.0) = let a = one.4 in let b = rest.3 in omega (arith, a, b) in (
        one.0 ∷ rest.0,
        spells r q one.0 rest.0 one.1 one.2 rest.1,
        subst (λ (s : List ℕ). StandsAt h i s) (sym (reverse-append (one.0 ∷ []) rest.0))
            (stands_push h i one.0 (reverse rest.0) rest.2 (ap (slice_get h) (sym place) ∙ one.3)),
        end,
      )

  reads_tree : (q : List (ℕ × ℕ)) (u : List ℕ) (i : ℕ) → is_in_ranges q u ≡ true → StandsAt h i (reverse u) →
      Means looks h (read_tree true q) i (i + length u)
  reads_tree [] [] i e f = let same : i ≡ i + 0 = omega arith in same
  reads_tree [] (b ∷ u) i e f = absurd (false≢true e)
  reads_tree (r ∷ q) [] i e f = absurd (false≢true e)
  reads_tree (r ∷ q) (b ∷ u) i e f =
      let p = spelled r q b u e in
      let g = stands_parts h i b (reverse u) (subst (λ (s : List ℕ). StandsAt h i s) (reverse-append (b ∷ []) u) f) in
      let place : i + length (reverse u) ≡ i + length u = ap (λ n. i + n) (length-reverse u) in
      let end : i + length u + 1 ≡ i + length (b ∷ u) = omega arith in (
        i + length u,
        reads_tree q u i p.2 g.0,
        subst (λ (k : ℕ). Means looks h (range_tree r) (i + length u) k) end
            (read_range r (i + length u) b p.0 p.1 (ap (slice_get h) (sym place) ∙ g.1)),
      )

  -- ---- one of several sequences

  all_read_first : (ss : List (List (ℕ × ℕ))) (i j : ℕ) → Means looks h (alternation (map sequence_tree ss)) i j → (s : List ℕ) ×
      IsInSome ss s × StandsAt h i s × (j ≡ i + length s)
  all_read_first [] i j m = absurd m
  all_read_first (q ∷ ss) i j m = elim m [
    | inl here ↦ (let p = sequence_reads q i j here in (p.0, inl p.1, p.2, p.3))
    | inr later ↦ (let p = all_read_first ss i j later in (p.0, inr p.1, p.2, p.3))
  ]

  first_read : (ss : List (List (ℕ × ℕ))) (s : List ℕ) (i : ℕ) → IsInSome ss s → StandsAt h i s →
      Means looks h (alternation (map sequence_tree ss)) i (i + length s)
  first_read [] s i k f = k
  first_read (q ∷ ss) s i k f = elim k [ inl here ↦ inl (reads_sequence q s i here f) | inr later ↦ inr (first_read ss s i later f) ]

  all_read_last : (qs : List (List (ℕ × ℕ))) (i j : ℕ) → Means looks h (alternation (map (read_tree true) qs)) i j → (u : List ℕ) ×
      IsInSome qs u × StandsAt h i (reverse u) × (j ≡ i + length u)
  all_read_last [] i j m = absurd m
  all_read_last (q ∷ qs) i j m = elim m [
    | inl here ↦ (let p = tree_reads q i j here in (p.0, inl p.1, p.2, p.3))
    | inr later ↦ (let p = all_read_last qs i j later in (p.0, inr p.1, p.2, p.3))
  ]

  last_read : (qs : List (List (ℕ × ℕ))) (u : List ℕ) (i : ℕ) → IsInSome qs u → StandsAt h i (reverse u) →
      Means looks h (alternation (map (read_tree true) qs)) i (i + length u)
  last_read [] u i k f = k
  last_read (q ∷ qs) u i k f = elim k [ inl here ↦ inl (reads_tree q u i here f) | inr later ↦ inr (last_read qs u i later f) ]

  -- ---- a class and its sequences turned round

  module _ (qs : List (List (ℕ × ℕ))) (ranges : List (ℕ × ℕ)) (has : HasTurned qs (sequences_of ranges)) (i j : ℕ) where
    pub turned_to_class : Means looks h (alternation (map (read_tree true) qs)) i j → Means looks h (char_class ranges) i j
    turned_to_class m =
        let p = all_read_last qs i j m in
        let whole = first_read (sequences_of ranges) (reverse p.0) i (turned_round_in (sequences_of ranges) p.0 (has.only p.0 p.1)) p.2 in
        let end : i + length (reverse p.0) ≡ j = ap (λ n. i + n) (length-reverse p.0) ∙ sym p.3 in
        sequences_to_class looks h ranges i j (subst (λ (k : ℕ). Means looks h (alternation (map sequence_tree (sequences_of ranges))) i k)
        end whole)

    pub class_to_turned : Means looks h (char_class ranges) i j → Means looks h (alternation (map (read_tree true) qs)) i j
    class_to_turned m =
        let p = all_read_first (sequences_of ranges) i j (class_to_sequences looks h ranges i j m) in
        let stands : StandsAt h i (reverse (reverse p.0)) = subst (λ (s : List ℕ). StandsAt h i s) (sym (reverse-reverse p.0)) p.2 in
        let whole = last_read qs (reverse p.0) i (has.kept (reverse p.0) (in_turned_round (sequences_of ranges) p.0 p.1)) stands in
        let end : i + length (reverse p.0) ≡ j = ap (λ n. i + n) (length-reverse p.0) ∙ sym p.3 in
        subst (λ (k : ℕ). Means looks h (alternation (map (read_tree true) qs)) i k) end whole

-- there is no loop in what is read
tree_loops : (q : List (ℕ × ℕ)) → LoopsRead (read_tree true q)
tree_loops [] = tt
tree_loops (r ∷ q) = (tree_loops q, tt)

all_loops : (qs : List (List (ℕ × ℕ))) → LoopsRead (alternation (map (read_tree true) qs))
all_loops [] = tt
all_loops (q ∷ qs) = (tree_loops q, all_loops qs)

-- when reading in reverse, a table does for the sequences turned round what it does for the class
pub denotes_turned : (back : Bool) (T : Table) (s e : ℕ) (qs : List (List (ℕ × ℕ))) (ranges : List (ℕ × ℕ)) → back ≡ true →
    HasTurned qs (sequences_of ranges) →
    Denotes back T s e (alternation (map (read_tree back) qs)) → Denotes back T s e (char_class ranges)
denotes_turned false T s e qs ranges is_reverse has d = absurd (false≢true is_reverse)
denotes_turned true T s e qs ranges is_reverse has d =
    denotes_like_meaning true T s e (alternation (map (read_tree true) qs)) (char_class ranges)
    (λ looks h i j. class_to_turned looks h qs ranges has i j) (λ looks h i j. turned_to_class looks h qs ranges has i j)
    (λ f. all_loops qs) (λ up. absurd (true≢false up)) d
