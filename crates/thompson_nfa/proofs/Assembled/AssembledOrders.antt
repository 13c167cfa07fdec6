-- In which order the automaton that is built of a compile's states finds spans when reading forward.
use Rattle.std.proofs.Common.{◌≡◌, ℕ, suc, ◌-◌, ◌<◌, ◌≤◌, Bool, false, List, [], ◌∷◌, length, map, get_or, slice_get, inl, inr, Some, sym}
use Rattle.std.proofs.Common.{ap, ◌∙◌, subst, arith}
use Rattle.std.specs.Prelude.{All}
use Rattle.std.specs.List.{flat_map}
use Rattle.hir_core.specs.Tree.{Tree}
use Rattle.hir_core.specs.PreferredEnds.{preferred_ends}
use Rattle.hir_core.specs.Facts.{LoopsRead}
use Rattle.nfa_core.specs.Walks.{Lists, distinct}
use Rattle.nfa_core.specs.Places.{same_pair}
use Rattle.nfa_core.specs.Nfa.{Automaton}
use Rattle.nfa_core.specs.NfaValue.{Nfa}
use Rattle.nfa_core.specs.Ways.{Text, ends_from}
use Rattle.nfa_core.specs.BuilderStates.{Assembly, draft_at}
use Rattle.nfa_core.specs.Renaming.{new_name, automaton_of}
use Rattle.nfa_core.specs.Drafted.{table_ways, table_match}
use Rattle.nfa_core.proofs.ForCallers.{ends_listed}
use Rattle.thompson_nfa.specs.Configs.{Options, reverse_of}
use Rattle.thompson_nfa.specs.Denotes.{seen}
use Rattle.search_types.specs.FirstFound.{offsets_from}
use Rattle.thompson_nfa.specs.Compilations.{choices_from, pattern_start, IsPlainText, FindsInOrder}
use Rattle.thompson_nfa.specs.Assembled.{AcceptAll, IsAssembled, ComesBefore}
use Rattle.thompson_nfa.proofs.Walks.OrderLemmas.{Listed, ListedFirsts}
use Rattle.thompson_nfa.proofs.Walks.FindLemmas.{accepts_lists}
use Rattle.thompson_nfa.proofs.Walks.ChoiceLemmas.{accept_at, all_list}
use Rattle.thompson_nfa.proofs.Walks.TriedOrders.{tried, tries_in_order, listed_behind, all_tried}
use Rattle.thompson_nfa.proofs.Walks.AnchorLemmas.{orders_at_once, choices_at_once}
use Rattle.thompson_nfa.proofs.Assembled.AssembledSpans.{start_is, start_inside}

module _ (o : Options) (xs : List Tree) (b : Assembly) (A U : ℕ) (is : IsAssembled o xs b A U) (up : reverse_of o ≡ false) where
  abbrev auto : Automaton
  auto = automaton_of b A U

  reads_forward : b.reverse ≡ false
  reads_forward = is.reverse ∙ up

  turned : (t : Text) (q i : ℕ) (l : List (ℕ × ℕ)) → Listed t (draft_at b.drafts) ((i, q) ∷ []) l →
      Lists (table_ways b.reverse t (draft_at b.drafts)) (table_match (draft_at b.drafts)) ((i, q) ∷ []) l
  turned t q i l walk =
      let P : Bool → Type 0 = λ r. Lists (table_ways r t (draft_at b.drafts)) (table_match (draft_at b.drafts)) ((i, q) ∷ []) l in
      subst P (sym reads_forward) walk

  -- what is listed from a state are the ends from it
  ends_are_listed : (t : Text) (q i : ℕ) (l : List (ℕ × ℕ)) → q < length b.drafts → i ≤ t.end →
      ListedFirsts t (draft_at b.drafts) ((i, q) ∷ []) l →
      ends_from auto t (i, new_name b.drafts q) ≡ distinct same_pair l
  ends_are_listed t q i l inside place walk = ends_listed b A U is.can_build t q i inside place walk.0 (turned t q i walk.0 walk.1) ∙ walk.2

  accept_forward : AcceptAll false (draft_at b.drafts) 0 b.starts xs
  accept_forward = let P : Bool → Type 0 = λ r. AcceptAll r (draft_at b.drafts) 0 b.starts xs in subst P up is.accept

  before_forward : ComesBefore false xs (draft_at b.drafts) U A
  before_forward = let P : Bool → Type 0 = λ r. ComesBefore r xs (draft_at b.drafts) U A in subst P up is.before

  patterns_listed : (p : ℕ) (x : Tree) → slice_get xs p ≡ Some x → LoopsRead x → (t : Text) (i : ℕ) → i ≤ t.end →
      ends_from auto t (i, pattern_start auto p) ≡ distinct same_pair (map (λ j. (j, p)) (preferred_ends t.holds (seen t) x i))
  patterns_listed p x got reading t i place =
      let q : ℕ = get_or b.starts p 0 in
      let a = accept_at false (draft_at b.drafts) 0 b.starts xs accept_forward p p x (omega arith) got in
      ap (λ (s : ℕ). ends_from auto t (i, s)) (start_is o xs b A U is p x got)
      ∙ ends_are_listed t q i (map (λ j. (j, p)) (preferred_ends t.holds (seen t) x i)) (start_inside o xs b A U is p x got) place
      (accepts_lists t (draft_at b.drafts) q p x i a.accepts reading)

  module _ (reading : All LoopsRead xs) where
    anchored_walk : (t : Text) (i : ℕ) → ListedFirsts t (draft_at b.drafts) ((i, A) ∷ []) (choices_from 0 xs t i)
    anchored_walk t i = all_list t (draft_at b.drafts) A b.starts xs i is.leads accept_forward reading

    anchored_listed : (t : Text) (i : ℕ) → i ≤ t.end → ends_from auto t (
      i,
      new_name b.drafts A,
    ) ≡ distinct same_pair (choices_from 0 xs t i)
    anchored_listed t i place = ends_are_listed t A i (choices_from 0 xs t i) is.can_build.anchored_there place (anchored_walk t i)

    all_walked : (t : Text) (i : ℕ) → IsPlainText t → i ≤ t.end →
        ListedFirsts t (draft_at b.drafts) ((i, U) ∷ []) (flat_map (choices_from 0 xs t) (offsets_from i (suc t.end - i)))
    all_walked t i read high =
        let P : List (ℕ × ℕ) → Type 0 = λ l. ListedFirsts t (draft_at b.drafts) ((i, U) ∷ []) l in
        elim before_forward [
          | inl x ↦ subst P (choices_at_once t read xs i x.0 high)
              (listed_behind t (draft_at b.drafts) U A (choices_from 0 xs t) (anchored_walk t) (λ k. k ∷ []) i
              (orders_at_once t (draft_at b.drafts) U A x.1))
          | inr x ↦ subst P (ap (flat_map (choices_from 0 xs t))
              (all_tried t i (record { within = read.within; bytes = read.bytes }) high))
              (listed_behind t (draft_at b.drafts) U A (choices_from 0 xs t) (anchored_walk t) (tried t) i
              (tries_in_order t (draft_at b.drafts) U A x.1))
        ]

    unanchored_listed : (t : Text) (i : ℕ) → IsPlainText t → i ≤ t.end →
        ends_from auto t (i, new_name b.drafts U) ≡ distinct same_pair (flat_map (choices_from 0 xs t) (offsets_from i (suc t.end - i)))
    unanchored_listed t i read high =
        ends_are_listed t U i (flat_map (choices_from 0 xs t) (offsets_from i (suc t.end - i))) is.can_build.unanchored_there high
        (all_walked t i read high)

  finds_in_order : (n : Nfa) → n.automaton ≡ auto → FindsInOrder xs n
  finds_in_order n same = record {
    patterns = λ p x got reading t i place.
        let P : Automaton → Type 0 = λ a. ends_from a t (i, pattern_start a p) ≡ distinct same_pair
        (map (λ j. (j, p)) (preferred_ends t.holds (seen t) x i)) in
        subst P (sym same) (patterns_listed p x got reading t i place);
    anchored = λ reading t i place.
        let P : Automaton → Type 0 = λ a. ends_from a t (i, a.start_anchored) ≡ distinct same_pair (choices_from 0 xs t i) in
        subst P (sym same) (anchored_listed reading t i place);
    unanchored = λ reading t i read low high.
        let P : Automaton → Type 0 =
        λ a. ends_from a t (i, a.start_unanchored)
        ≡ distinct same_pair (flat_map (choices_from 0 xs t) (offsets_from i (suc t.end - i))) in
        subst P (sym same) (unanchored_listed reading t i read high);
  }

pub assembled_finds_in_order : (o : Options) (xs : List Tree) (b : Assembly) (A U : ℕ) → IsAssembled o xs b A U → reverse_of o ≡ false →
    (n : Nfa) → n.automaton ≡ automaton_of b A U → FindsInOrder xs n
assembled_finds_in_order o xs b A U is up n same = finds_in_order o xs b A U is up n same
