-- An empty span of a tree, wherever it is, is one that the tree means without bytes if each look holds.
use Rattle.std.proofs.Common.{◌≡◌, ℕ, zero, suc, ◌-◌, ◌≤◌, List, [], ◌∷◌, take, drop, inl, inr, refl, arith}
use Rattle.std.proofs.lemmas.List.{length-take}
use Rattle.search_core.proofs.ForCallers.{spelling_some}
use Rattle.hir_core.specs.Tree.{Tree, empty, literal, byte_class, char_class, look, repetition, capture, nothing, cat, never, alt}
use Rattle.hir_core.specs.Means.{Looks, Means, Rounds}
use Rattle.hir_core.specs.Agree.{all_hold}
use Rattle.hir_core.proofs.SpanLemmas.{IsSpan-Means, IsSpan-Rounds, span_forward}

module _ (looks : Looks) (h : List ℕ) where
  abbrev IsFree : Tree → Type 0
  IsFree x = (i j : ℕ) → i ≡ j → Means looks h x i j → Means all_hold [] x 0 0

  rounds_empty : (x : Tree) → IsFree x → (n i j : ℕ) → i ≡ j → Rounds (Means looks h x) n i j → Rounds (Means all_hold [] x) n 0 0
  rounds_empty x each zero i j e r = refl
  rounds_empty x each (suc n) i j e r =
      let up : i ≤ r.0 = span_forward looks h x i r.0 r.1 in
      let others = IsSpan-Rounds h (Means looks h x) (IsSpan-Means looks h x) n r.0 j r.2 in
      let on : r.0 ≤ j = others.forward in
      (0, each i r.0 (omega arith) r.1, rounds_empty x each n r.0 j (omega arith) r.2)

  pub empty_span : (x : Tree) → IsFree x
  empty_span empty i j e m = refl
  empty_span (literal []) i j e m = (omega arith, refl)
  empty_span (literal (b ∷ bytes)) i j e m = absurd (omega (arith, m.0))
  empty_span (byte_class ranges) i j e m = absurd (omega (arith, m.0))
  empty_span (char_class ranges) i j e m =
      let some = spelling_some m.scalar (take (j - i) (drop i h)) m.spells in absurd (omega (arith, some, length-take (j - i) (drop i h)))
  empty_span (look l) i j e m = (refl, refl)
  empty_span (repetition min most greedy x) i j e m = (m.0, m.1, m.2, rounds_empty x (empty_span x) m.0 i j e m.3)
  empty_span (capture index name x) i j e m = empty_span x i j e m
  empty_span nothing i j e m = refl
  empty_span (cat x y) i j e m =
      let up : i ≤ m.0 = span_forward looks h x i m.0 m.1 in
      let on : m.0 ≤ j = span_forward looks h y m.0 j m.2 in
      (0, empty_span x i m.0 (omega arith) m.1, empty_span y m.0 j (omega arith) m.2)
  empty_span never i j e m = elim m [ ]
  empty_span (alt x y) i j e (inl m) = inl (empty_span x i j e m)
  empty_span (alt x y) i j e (inr m) = inr (empty_span y i j e m)

  pub empty_span_there : (x : Tree) (i : ℕ) → Means looks h x i i → Means all_hold [] x 0 0
  empty_span_there x i m = empty_span x i i refl m
