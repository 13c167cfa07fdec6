-- Precondition: the body of every unbounded repetition of the trees consumes at least one byte. Then the first end of the runs of an
-- automaton that is compiled from them for one who reads forward is the first that they offer, at one offset after the other.
use Rattle.std.proofs.Common.{◌≡◌, ℕ, zero, suc, ◌+◌, ◌-◌, ◌≤◌, false, List, [], ◌∷◌, ◌++◌, take, get_or, slice_get, Option, Some, None}
use Rattle.std.proofs.Common.{All, refl, sym, ap, ap₂, ◌∙◌, arith, append-nil}
use Rattle.std.specs.List.{flat_map}
use Rattle.std.proofs.lemmas.Option.{slice_get_within, slice_get-get_or, get_or_from_slice_get}
use Rattle.hir_core.specs.Tree.{Tree, empty}
use Rattle.hir_core.specs.Means.{Looks}
use Rattle.hir_core.specs.PreferredEnds.{preferred_ends}
use Rattle.hir_core.specs.Facts.{LoopsRead}
use Rattle.search_types.specs.declared.anchored.Anchored.{Anchored}
use Rattle.search_types.specs.declared.anchored.Anchored.TheVariants.{No, Yes, Pattern}
use Rattle.search_types.specs.Modes.{last_start}
use Rattle.search_types.specs.FirstFound.{first_of, offsets_from}
use Rattle.nfa_core.specs.Walks.{distinct}
use Rattle.nfa_core.specs.Nfa.{Automaton}
use Rattle.nfa_core.specs.Places.{same_pair, first}
use Rattle.nfa_core.specs.NfaValue.{Nfa}
use Rattle.nfa_core.specs.Reaches.{read_by}
use Rattle.nfa_core.specs.Ways.{Text, ends_from}
use Rattle.nfa_core.proofs.ForCallers.{first_distinct}
use Rattle.thompson_nfa.specs.Configs.{Options, reverse_of}
use Rattle.thompson_nfa.specs.Denotes.{seen}
use Rattle.thompson_nfa.specs.Compilations.{IsCompiled, IsPlainText, FindsInOrder, choices_from, pattern_start}
use Rattle.lazy_dfa.specs.Scans.{start_name}
use Rattle.hir_regex.proofs.EndLemmas.{listed_has}
use Rattle.hir_regex.proofs.OfferLemmas.{offered, pattern_offers, mode_offers, paired}

-- From each offset of the haystack from s on, the first end is the first offer of the least offset that has one. Of a pattern that doesn't
-- exist nothing is offered.
pub record FindsFirsts (a : Automaton) (t : Text) (mode : Anchored) (offers : ℕ → List (ℕ × ℕ)) : Type 0 where
  pub firsts : (i name : ℕ) → t.start ≤ i → i ≤ t.end → start_name a mode ≡ Some name →
      first (ends_from a t (i, name)) ≡ first_of (flat_map offers (offsets_from i (suc (last_start mode i t.end) - i)))
  pub nothing : start_name a mode ≡ None → (i : ℕ) → offers i ≡ []

pub first_is_of : (ends : List (ℕ × ℕ)) → first ends ≡ first_of ends
first_is_of [] = refl
first_is_of (c ∷ cs) = refl

pub first_of_ends : (ends l : List (ℕ × ℕ)) → ends ≡ distinct same_pair l → first ends ≡ first_of l
first_of_ends ends l e = ap first e ∙ first_distinct same_pair l ∙ first_is_of l

same_choices : (t : Text) (xs : List Tree) (p k i : ℕ) → p ≡ k → choices_from p xs t i ≡ offered t.holds (seen t) k xs i
same_choices t [] p k i e = refl
same_choices t (x ∷ xs) p k i e =
    ap₂ (λ (l m : List (ℕ × ℕ)). l ++ m) (ap (λ n. paired n (preferred_ends t.holds (seen t) x i)) e)
    (same_choices t xs (suc p) (k + 1) i (omega arith))

pub same_over : (b c : ℕ → List (ℕ × ℕ)) (n i : ℕ) → ((k : ℕ) → b k ≡ c k) → flat_map b (offsets_from i n) ≡ flat_map c (offsets_from i n)
same_over b c zero i same = refl
same_over b c (suc n) i same = ap₂ (λ (l m : List (ℕ × ℕ)). l ++ m) (same i) (same_over b c n (suc i) same)

pub one_place : (offers : ℕ → List (ℕ × ℕ)) (i : ℕ) → flat_map offers (offsets_from i (suc i - i)) ≡ offers i
one_place offers i =
    let one : suc i - i ≡ 1 = omega arith in
    ap (λ k. flat_map offers (offsets_from i k)) one ∙ append-nil (offers i)

-- the start of a pattern exists if its tree does
pub no_start_no_tree : (o : Options) (xs : List Tree) (n : Nfa) → IsCompiled o xs n → (p : ℕ) →
    slice_get n.automaton.start_pattern p ≡ None → (x : Tree) →
    slice_get xs p ≡ Some x → ⊥
no_start_no_tree o xs n compiled p none x listed =
    let inside = slice_get_within xs p x listed in
    let some = slice_get-get_or n.automaton.start_pattern p 0 (omega (arith, inside, compiled.patterns)) in
    let differ : None ≡ Some (get_or n.automaton.start_pattern p 0) = sym none ∙ some in cc

pub start_has_tree : (o : Options) (xs : List Tree) (n : Nfa) → IsCompiled o xs n → (p q : ℕ) →
    slice_get n.automaton.start_pattern p ≡ Some q →
    slice_get xs p ≡ Some (get_or xs p empty)
start_has_tree o xs n compiled p q is =
    let inside = slice_get_within n.automaton.start_pattern p q is in
    slice_get-get_or xs p empty (omega (arith, inside, compiled.patterns))

module _ (o : Options) (xs : List Tree) (n : Nfa) (compiled : IsCompiled o xs n) (up : reverse_of o ≡ false) (loops : All LoopsRead xs)
    (looks : Looks) (h : List ℕ) (s e : ℕ) (read : IsPlainText (read_by looks h s e)) where
  abbrev t : Text
  t = read_by looks h s e

  order : FindsInOrder xs n
  order = compiled.order up

  unanchored : (i name : ℕ) → s ≤ i → i ≤ e → start_name n.automaton No ≡ Some name →
      first (ends_from n.automaton t (i, name)) ≡ first_of (flat_map (mode_offers looks (take e h) xs No) (offsets_from i (suc e - i)))
  unanchored i name low high is =
      let same : n.automaton.start_unanchored ≡ name = cc in
      ap (λ k. first (ends_from n.automaton t (i, k))) (sym same)
      ∙ first_of_ends (ends_from n.automaton t (i, n.automaton.start_unanchored))
      (flat_map (choices_from 0 xs t) (offsets_from i (suc e - i)))
      (order.unanchored loops t i read low high)
      ∙ ap first_of (same_over (choices_from 0 xs t) (mode_offers looks (take e h) xs No) (suc e - i) i (λ k. same_choices t xs 0 0 k refl))

  anchored : (i name : ℕ) → i ≤ e → start_name n.automaton Yes ≡ Some name →
      first (ends_from n.automaton t (i, name)) ≡ first_of (flat_map (mode_offers looks (take e h) xs Yes) (offsets_from i (suc i - i)))
  anchored i name high is =
      let same : n.automaton.start_anchored ≡ name = cc in
      ap (λ k. first (ends_from n.automaton t (i, k))) (sym same)
      ∙ first_of_ends (ends_from n.automaton t (i, n.automaton.start_anchored)) (choices_from 0 xs t i) (order.anchored loops t i high)
      ∙ ap first_of (same_choices t xs 0 0 i refl ∙ sym (one_place (mode_offers looks (take e h) xs Yes) i))

  named : (p i name : ℕ) → i ≤ e → slice_get n.automaton.start_pattern p ≡ Some name →
      first (ends_from n.automaton t (i, name)) ≡ first_of
      (flat_map (mode_offers looks (take e h) xs (Pattern p)) (offsets_from i (suc i - i)))
  named p i name high is =
      let here : pattern_start n.automaton p ≡ name = get_or_from_slice_get n.automaton.start_pattern p name 0 is in
      let listed = start_has_tree o xs n compiled p name is in
      ap (λ k. first (ends_from n.automaton t (i, k))) (sym here)
      ∙ first_of_ends (ends_from n.automaton t (i, pattern_start n.automaton p))
      (paired p (preferred_ends looks (take e h) (get_or xs p empty) i))
      (order.patterns p (get_or xs p empty) listed (listed_has LoopsRead xs loops p (get_or xs p empty) listed) t i high)
      ∙ ap first_of (ap (λ y. pattern_offers looks (take e h) p y i) (sym listed)
      ∙ sym (one_place (mode_offers looks (take e h) xs (Pattern p)) i))

  first_in : (mode : Anchored) (i name : ℕ) → s ≤ i → i ≤ e → start_name n.automaton mode ≡ Some name →
      first (ends_from n.automaton t (i, name)) ≡ first_of
      (flat_map (mode_offers looks (take e h) xs mode) (offsets_from i (suc (last_start mode i e) - i)))
  first_in No i name low high is = unanchored i name low high is
  first_in Yes i name low high is = anchored i name high is
  first_in (Pattern p) i name low high is = named p i name high is

  no_tree : (p i : ℕ) (x : Option Tree) → slice_get xs p ≡ x → slice_get n.automaton.start_pattern p ≡ None →
      pattern_offers looks (take e h) p x i ≡ []
  no_tree p i None is none = refl
  no_tree p i (Some x) is none = absurd (no_start_no_tree o xs n compiled p none x is)

  nothing_in : (mode : Anchored) → start_name n.automaton mode ≡ None → (i : ℕ) → mode_offers looks (take e h) xs mode i ≡ []
  nothing_in No none i = cc
  nothing_in Yes none i = cc
  nothing_in (Pattern p) none i = no_tree p i (slice_get xs p) refl none

  pub trees_firsts : (mode : Anchored) → FindsFirsts n.automaton t mode (mode_offers looks (take e h) xs mode)
  trees_firsts mode = record { firsts = first_in mode; nothing = nothing_in mode }
