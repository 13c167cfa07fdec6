-- Classes of scalars read in reverse: the branches of the ranges that were met, and what the map keeps.
use Rattle.std.proofs.Common.{◌≡◌, ℕ, ◌+◌, ◌*◌, ◌<◌, true, List, [], ◌∷◌, ◌++◌, length, map, take, get_or, None, refl, sym, ap, ◌∙◌, subst}
use Rattle.std.proofs.Common.{arith, append-nil, eq-eqb}
use Rattle.std.proofs.lemmas.Grind.{flat_map-append}
use Rattle.std.proofs.lemmas.List.{length-replicate, map-append, take_more}
use Rattle.hir_core.specs.BySequences.{sequence_tree, sequences_of}
use Rattle.hir_core.specs.Facts.{sequence_count}
use Rattle.hir_core.specs.Sequences.{utf8_sequences}
use Rattle.hir_core.specs.Tree.{Tree}
use Rattle.nfa_core.specs.BuilderStates.{Assembly, empty_draft}
use Rattle.thompson_nfa.specs.Added.{AddsDraft}
use Rattle.thompson_nfa.specs.Choice.{no_choice}
use Rattle.thompson_nfa.specs.SharedSuffixes.{AddsSequences}
use Rattle.thompson_nfa.specs.SlotTables.{SlotTable, is_ready, empty_table}
use Rattle.thompson_nfa.specs.declared.class_fragments.utf8_suffix_map.Utf8SuffixKey.{Utf8SuffixKey}
use Rattle.thompson_nfa.proofs.Steps.RoomLemmas.{sequence_count_take}
use Rattle.thompson_nfa.proofs.Classes.ScalarBranches.{Branched}
use Rattle.thompson_nfa.proofs.Classes.ScalarLemmas.{RangesTo, no_range}
use Rattle.thompson_nfa.proofs.Classes.SuffixLemmas.{Keeps, keeps_none, suffixed_all}
use Rattle.thompson_nfa.proofs.Classes.SuffixSteps.{sequences_steps}

-- branches for the sequences of the first i ranges, and the map keeps states of them
pub record RangesReverse (a b : Assembly) (capacity : ℕ) (table : SlotTable Utf8SuffixKey) (u m i : ℕ) (ranges : List (ℕ ×
    ℕ)) : Type 0 where
  pub met : RangesTo a b u m i ranges
  pub keeps : Keeps (length a.drafts) b u m table
  pub ready : is_ready table ≡ true
  pub as_many : table.capacity ≡ capacity

empty_ready : (capacity : ℕ) → is_ready (empty_table {K = Utf8SuffixKey} capacity) ≡ true
empty_ready capacity = eq-eqb (length (empty_table {K = Utf8SuffixKey} capacity).places) capacity (length-replicate capacity None)

pub reverse_begun : (a b c : Assembly) (capacity : ℕ) (table : SlotTable Utf8SuffixKey) (u m : ℕ) (ranges : List (ℕ × ℕ)) →
    table ≡ empty_table capacity →
    AddsDraft a b u (no_choice true) a.groups → AddsDraft b c m (empty_draft 0) b.groups → RangesReverse a c capacity table u m 0 ranges
reverse_begun a b c capacity table u m ranges e x y =
    let P : SlotTable Utf8SuffixKey → Type 0 = λ t. RangesReverse a c capacity t u m 0 ranges in
    subst P (sym e) (record {
      met = no_range a b c u m ranges x y;
      keeps = keeps_none (length a.drafts) c u m capacity;
      ready = empty_ready capacity;
      as_many = refl;
    })

module _ (a b : Assembly) (capacity : ℕ) (table : SlotTable Utf8SuffixKey) (u m i : ℕ) (ranges : List (ℕ × ℕ))
    (so_far : RangesReverse a b capacity table u m i ranges) (d : ℕ × ℕ) (less : i < length ranges) where
  abbrev here : ℕ × ℕ
  here = get_or ranges i d

  more_trees : map sequence_tree (sequences_of (take i ranges)) ++ map sequence_tree (utf8_sequences here.0 here.1) ≡ map sequence_tree
      (sequences_of (take (i + 1) ranges))
  more_trees =
      sym (map-append sequence_tree (sequences_of (take i ranges)) (utf8_sequences here.0 here.1))
      ∙ ap (λ (l : List (List (ℕ × ℕ))). map sequence_tree (sequences_of (take i ranges) ++ l))
      (sym (append-nil (utf8_sequences here.0 here.1)))
      ∙ ap (λ (l : List (List (ℕ × ℕ))). map sequence_tree l) (sym (flat_map-append (λ (r : ℕ × ℕ). utf8_sequences r.0 r.1) (take i ranges)
      (here ∷ [])))
      ∙ ap (λ (l : List (ℕ × ℕ)). map sequence_tree (sequences_of l)) (sym (take_more ranges i d less))

  pub reverse_next : a.reverse ≡ true → (c : Assembly) (changed : SlotTable Utf8SuffixKey) →
      AddsSequences u m b table c changed (utf8_sequences here.0 here.1) →
      RangesReverse a c capacity changed u m (i + 1) ranges
  reverse_next is_reverse c changed added =
      let n : ℕ = 2 + 4 * sequence_count (take i ranges) in
      let qs = utf8_sequences here.0 here.1 in
      let all = suffixed_all a u m is_reverse b table n (map sequence_tree (sequences_of (take i ranges)))
      (record { branched = so_far.met.branched; keeps = so_far.keeps }) c changed qs added in
      let steps = sequences_steps added in
      let sum = sequence_count_take ranges i d less in
      let states : n + 4 * length qs ≡ 2 + 4 * sequence_count (take (i + 1) ranges) = omega (arith, sum) in
      let P : List Tree → Type 0 = λ xs. Branched a c u m (n + 4 * length qs) xs in
      let Q : ℕ → Type 0 = λ k. Branched a c u m k (map sequence_tree (sequences_of (take (i + 1) ranges))) in
      record {
        met = record {
          branched = subst Q states (subst P more_trees all.branched);
          groups = steps.groups ∙ so_far.met.groups;
          within = omega arith;
        };
        keeps = all.keeps;
        ready = steps.ready so_far.ready;
        as_many = steps.capacity ∙ so_far.as_many;
      }
