-- If all trees are anchored, there are choices at one offset alone, for reading from an offset of a span.
use Rattle.std.proofs.Common.{◌≡◌, ℕ, zero, suc, ◌-◌, ◌≤◌, Bool, true, false, List, [], ◌∷◌, ◌++◌, length, map, slice_get, Some, refl, sym}
use Rattle.std.proofs.Common.{ap, ◌∙◌, subst, arith}
use Rattle.std.specs.Prelude.{All}
use Rattle.std.specs.List.{flat_map}
use Rattle.std.proofs.lemmas.Bool.{eqb-true}
use Rattle.std.proofs.lemmas.Option.{slice_get_within, get_or_from_slice_get}
use Rattle.std.proofs.lemmas.List.Elements.{All-get_or, All-head, All-tail}
use Rattle.look_core.specs.declared.look.Look.TheVariants.{Start, End}
use Rattle.hir_core.specs.Tree.{Tree}
use Rattle.hir_core.specs.PreferredEnds.{preferred_ends}
use Rattle.hir_core.proofs.ForCallers.{nil_from_none, prefix_sound, suffix_sound, preferred_ends_sound}
use Rattle.nfa_core.specs.Ways.{Text}
use Rattle.nfa_core.specs.Drafted.{Table}
use Rattle.nfa_core.specs.BuilderStates.{empty_draft}
use Rattle.thompson_nfa.specs.Denotes.{seen, IsMeant, Reaches, Halts, Orders}
use Rattle.search_types.specs.FirstFound.{offsets_from}
use Rattle.thompson_nfa.specs.Compilations.{IsChoice, choices_from, IsReadTo, IsPlainText, is_anchored_tree}
use Rattle.thompson_nfa.specs.Assembled.{AllAnchored}
use Rattle.thompson_nfa.proofs.Walks.WayLemmas.{goes_empty}
use Rattle.thompson_nfa.proofs.Walks.ReachLemmas.{reaches_pass}
use Rattle.thompson_nfa.proofs.Walks.HaltLemmas.{halts_pass}
use Rattle.thompson_nfa.proofs.Walks.OrderLemmas.{orders_leaf}

pub of_member : {A : Type 0} (P : A → Type 0) (xs : List A) (n : ℕ) (x : A) → All P xs → slice_get xs n ≡ Some x → P x
of_member P xs n x all got = subst P (get_or_from_slice_get xs n x x got) (All-get_or P xs n x (slice_get_within xs n x got) all)

-- the state that stands for the anchored start
pub reaches_at_once : (back : Bool) (t : Text) (T : Table) (u c : ℕ) → T u ≡ empty_draft c → Reaches back t T u c (λ i j. i ≡ j)
reaches_at_once back t T u c is = reaches_pass back t T u c (goes_empty back t T u c is)

pub halts_at_once : (back : Bool) (t : Text) (T : Table) (u c : ℕ) → T u ≡ empty_draft c → Halts back t T u c (λ i j. i ≡ j)
halts_at_once back t T u c is = halts_pass back t T u c (goes_empty back t T u c is)

pub orders_at_once : (t : Text) (T : Table) (u c : ℕ) → T u ≡ empty_draft c → Orders t T u c (λ i. i ∷ [])
orders_at_once t T u c is = orders_leaf t T u c (λ i. i ∷ []) (goes_empty false t T u c is)

module _ (t : Text) (is : IsPlainText t) where
  meant_at_start : (x : Tree) (k j : ℕ) → is_anchored_tree false x ≡ true → IsMeant false t x k j → k ≡ 0
  meant_at_start x k j anchored meant = eqb-true k 0 (sym (is.at_start k) ∙ prefix_sound t.holds (seen t) Start x k j meant anchored)

  meant_at_end : (x : Tree) (k j : ℕ) → is_anchored_tree true x ≡ true → IsMeant true t x k j → k ≡ length t.haystack
  meant_at_end x k j anchored meant =
      eqb-true k (length t.haystack) (sym (is.at_end k) ∙ suffix_sound t.holds t.haystack End x j k meant.0 anchored)

  -- a choice at an offset that is read to is one at the offset where reading begins
  pub anchored_place : (back : Bool) (xs : List Tree) (i k : ℕ) (e : ℕ × ℕ) → AllAnchored back xs → t.start ≤ i → i ≤ t.end →
      IsReadTo back t i k → IsChoice back xs t k e → i ≡ k
  anchored_place false xs i k e all low high read choice =
      let z : k ≡ 0 = meant_at_start choice.0 k e.0 (of_member (λ x. is_anchored_tree false x ≡ true) xs e.1 choice.0 all choice.1)
      choice.2 in
      let a = read.0 in
      omega arith
  anchored_place true xs i k e all low high read choice =
      let within = is.within in
      let z : k ≡ length t.haystack =
      meant_at_end choice.0 k e.0 (of_member (λ x. is_anchored_tree true x ≡ true) xs e.1 choice.0 all choice.1) choice.2 in
      let a = read.0 in
      omega arith

  no_ends : (x : Tree) (k : ℕ) → is_anchored_tree false x ≡ true → preferred_ends t.holds (seen t) x (suc k) ≡ []
  no_ends x k anchored = nil_from_none (preferred_ends t.holds (seen t) x (suc k))
      (λ j has. let z : suc k ≡ 0 = meant_at_start x (suc k) j anchored (preferred_ends_sound t.holds (seen t) x (suc k) j has) in
      omega arith)

  no_choices : (p : ℕ) (xs : List Tree) (k : ℕ) → AllAnchored false xs → choices_from p xs t (suc k) ≡ []
  no_choices p [] k all = refl
  no_choices p (x ∷ xs) k all =
      ap (λ (l : List ℕ). map (λ j. (j, p)) l ++ choices_from (suc p) xs t (suc k))
      (no_ends x k (All-head (λ y. is_anchored_tree false y ≡ true) x xs all))
      ∙ no_choices (suc p) xs k (All-tail (λ y. is_anchored_tree false y ≡ true) x xs all)

  nothing_later : (xs : List Tree) (i n : ℕ) → AllAnchored false xs → flat_map (choices_from 0 xs t) (offsets_from (suc i) n) ≡ []
  nothing_later xs i zero all = refl
  nothing_later xs i (suc n) all =
      ap (λ (l : List (ℕ × ℕ)). l ++ flat_map (choices_from 0 xs t) (offsets_from (suc (suc i)) n)) (no_choices 0 xs i all)
      ∙ nothing_later xs (suc i) n all

  -- so the choices at all offsets are those at the offset where reading begins
  pub choices_at_once : (xs : List Tree) (i : ℕ) → AllAnchored false xs → i ≤ t.end →
      flat_map (choices_from 0 xs t) (i ∷ []) ≡ flat_map (choices_from 0 xs t) (offsets_from i (suc t.end - i))
  choices_at_once xs i all high =
      ap (λ (l : List (ℕ × ℕ)). choices_from 0 xs t i ++ l) (sym (nothing_later xs i (t.end - i) all))
      ∙ ap (λ (n : ℕ). flat_map (choices_from 0 xs t) (offsets_from i n)) (let e : suc (t.end - i) ≡ suc t.end - i = omega arith in e)
