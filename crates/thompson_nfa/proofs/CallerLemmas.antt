-- What `IsCompiled` says of looks and of starts, in the forms that callers take.
use Rattle.std.proofs.Common.{◌≡◌, ◌↔◌, ℕ, zero, suc, ◌+◌, ◌-◌, ◌<◌, ◌≤◌, Bool, true, false, List, [], ◌∷◌, ◌++◌, length, ⊎_elim, Some}
use Rattle.std.proofs.Common.{refl, sym, ap, ap₂, ◌∙◌, arith}
use Rattle.std.specs.Prelude.{All, slice_get}
use Rattle.std.specs.List.{flat_map, list_any}
use Rattle.std.proofs.lemmas.Bool.{cases_Bool}
use Rattle.look_core.specs.declared.look.Look.{Look}
use Rattle.look_core.specs.LookSets.{has_look}
use Rattle.look_core.specs.Terminators.{Terminator}
use Rattle.hir_core.specs.Tree.{Tree}
use Rattle.hir_core.specs.Facts.{looks_used}
use Rattle.nfa_core.specs.NfaValue.{Nfa, looks_of}
use Rattle.nfa_core.specs.Places.{same_pair}
use Rattle.nfa_core.specs.Walks.{distinct}
use Rattle.nfa_core.specs.Ways.{Text, ends_from, span}
use Rattle.nfa_core.proofs.ForCallers.{join_distinct_each, pairs_equal}
use Rattle.search_types.specs.FirstFound.{offsets_from}
use Rattle.thompson_nfa.specs.Compilations.{IsCompiled, HasStarts, IsPlainText, pattern_start}
use Rattle.thompson_nfa.specs.Compiled.{turned}
use Rattle.thompson_nfa.specs.Configs.{Options, reverse_of}

-- ---- looks

module _ (test : Tree → Bool) where
  any_listed : (xs : List Tree) → list_any test xs ≡ true → (p : ℕ) × (x : Tree) × (slice_get xs p ≡ Some x) × (test x ≡ true)
  any_listed [] e = cc
  any_listed (y ∷ ys) e = ⊎_elim
      (λ (here : test y ≡ true). (0, y, refl, here))
      (λ (other : test y ≡ false). let r = any_listed ys (rw other at e) in (suc r.0, r.1, r.2, r.3))
      (cases_Bool (test y))

  listed_any : (xs : List Tree) (p : ℕ) (x : Tree) → slice_get xs p ≡ Some x → test x ≡ true → list_any test xs ≡ true
  listed_any [] zero x listed e = cc
  listed_any [] (suc p) x listed e = cc
  listed_any (y ∷ ys) zero x listed e =
      let same : y ≡ x = cc in
      let here : test y ≡ true = ap test same ∙ e in
      rw here refl
  listed_any (y ∷ ys) (suc p) x listed e = ⊎_elim
      (λ (here : test y ≡ true). rw here refl)
      (λ (other : test y ≡ false). rw other (listed_any ys p x listed e))
      (cases_Bool (test y))

-- the automaton has a state with the look exactly if one of the trees uses it, turned round if the automaton reads in reverse
pub looks_are_used : (o : Options) (xs : List Tree) (n : Nfa) → IsCompiled o xs n → (l : Look) →
    (has_look (looks_of n.automaton.states) l ≡ true)
    ↔ ((p : ℕ) × (x : Tree) × (slice_get xs p ≡ Some x) × (has_look (looks_used x) (turned (reverse_of o) l) ≡ true))
looks_are_used o xs n compiled l = (
  λ h. any_listed (λ x. has_look (looks_used x) (turned (reverse_of o) l)) xs (sym (compiled.looks l) ∙ h),
  λ u. compiled.looks l ∙ listed_any (λ x. has_look (looks_used x) (turned (reverse_of o) l)) xs u.0 u.1 u.2 u.3,
)

-- ---- starts

module _ (count : ℕ) (n : Nfa) (starts : HasStarts false count n) (t : Text) where
  -- what the patterns' starts find at an offset, one after the other
  abbrev pub by_patterns : ℕ → List (ℕ × ℕ)
  by_patterns k = flat_map (λ p. ends_from n.automaton t (k, pattern_start n.automaton p)) (offsets_from 0 count)

  each_place : (m k : ℕ) → k + m ≤ suc t.end →
      flat_map (λ i. ends_from n.automaton t (i, n.automaton.start_anchored)) (offsets_from k m)
      ≡ flat_map (λ i. distinct same_pair (by_patterns i)) (offsets_from k m)
  each_place zero k l = refl
  each_place (suc m) k l =
      ap₂ (λ (xs ys : List (ℕ × ℕ)). xs ++ ys) (starts.anchored t k (omega (arith, l))) (each_place m (suc k) (omega (arith, l)))

  -- when reading forward, the unanchored start finds what the patterns find at one offset after the other, repeats dropped
  pub unanchored_by_patterns : (i : ℕ) → IsPlainText t → t.start ≤ i → i ≤ t.end →
      ends_from n.automaton t (i, n.automaton.start_unanchored)
      ≡ distinct same_pair (flat_map by_patterns (offsets_from i (suc t.end - i)))
  unanchored_by_patterns i read low high =
      starts.unanchored refl t i read low high
      ∙ ap (distinct same_pair) (each_place (suc t.end - i) i (omega (arith, high)))
      ∙ sym (join_distinct_each same_pair pairs_equal by_patterns [] (offsets_from i (suc t.end - i)))

-- ---- haystacks

-- a span of a haystack of bytes, with words read as bytes, is a plain text: its edges are read as they are
pub span_is_read : (t : Terminator) (h : List ℕ) (s e : ℕ) → e ≤ length h → All (λ byte. byte < 256) h → IsPlainText (span t h s e)
span_is_read t h s e within bytes = record { within = within; bytes = bytes; at_start = λ i. refl; at_end = λ i. refl }
