-- The spans that a tree means go forward, and stay within the haystack if they move.
use Rattle.std.proofs.Common.{◌≡◌, ℕ, zero, suc, ◌+◌, ◌≤◌, max, true, List, ◌++◌, length, drop, refl, sym, ap, ◌∙◌, ⊎_elim, arith}
use Rattle.std.proofs.Common.{length-append, length-drop, drop-drop}
use Rattle.std.proofs.lemmas.Option.{slice_get_within}
use Rattle.std.proofs.lemmas.Slice.Eq.{starts_is}
use Rattle.std.proofs.lemmas.Bool.Decides.{Decides-eqb}
use Rattle.hir_core.specs.Tree.{Tree, empty, literal, byte_class, char_class, look, repetition, capture, nothing, cat, never, alt}
use Rattle.hir_core.specs.Means.{Looks, Means, Rounds, stands}
use Rattle.hir_core.specs.Spans.{IsSpan}

-- bytes that are at i begin the rest of the haystack
pub stands_begin : (h : List ℕ) (i : ℕ) (bytes : List ℕ) → stands h i bytes ≡ true → drop i h ≡ bytes ++ drop (i + length bytes) h
stands_begin h i bytes t =
    (starts_is Decides-eqb (drop i h) bytes true (sym t)).0 refl ∙ ap (λ rest. bytes ++ rest) (drop-drop (length bytes) i h)

stands_fit : (h : List ℕ) (i : ℕ) (bytes : List ℕ) → stands h i bytes ≡ true → i + length bytes ≤ max i (length h)
stands_fit h i bytes t =
    omega (arith, ap length (stands_begin h i bytes t), length-drop i h, length-append bytes (drop (i + length bytes) h))

pub IsSpan-Rounds : (h : List ℕ) (R : ℕ → ℕ → Type 0) → ((i j : ℕ) → R i j → IsSpan h i j) →
    (n i j : ℕ) → Rounds R n i j → IsSpan h i j
IsSpan-Rounds h R each zero i j r = record { forward = omega arith; within = omega arith }
IsSpan-Rounds h R each (suc n) i j r =
    let first = each i r.0 r.1 in
    let others = IsSpan-Rounds h R each n r.0 j r.2 in
    record { forward = omega arith; within = omega arith }

module _ (looks : Looks) (h : List ℕ) where
  pub IsSpan-Means : (x : Tree) (i j : ℕ) → Means looks h x i j → IsSpan h i j
  IsSpan-Means empty i j m = record { forward = omega arith; within = omega arith }
  IsSpan-Means (literal bytes) i j m = let fit = stands_fit h i bytes m.1 in record { forward = omega arith; within = omega arith }
  IsSpan-Means (byte_class ranges) i j m =
      let fit = slice_get_within h i m.1 m.2 in
      record { forward = omega arith; within = omega arith }
  IsSpan-Means (char_class ranges) i j m = let f = m.forward in let w = m.within in record { forward = f; within = omega arith }
  IsSpan-Means (look l) i j m = let e = m.0 in record { forward = omega arith; within = omega arith }
  IsSpan-Means (repetition min most greedy x) i j m = IsSpan-Rounds h (Means looks h x) (IsSpan-Means x) m.0 i j m.3
  IsSpan-Means (capture index name x) i j m = IsSpan-Means x i j m
  IsSpan-Means nothing i j m = record { forward = omega arith; within = omega arith }
  IsSpan-Means (cat x y) i j m =
      let first = IsSpan-Means x i m.0 m.1 in
      let others = IsSpan-Means y m.0 j m.2 in
      record { forward = omega arith; within = omega arith }
  IsSpan-Means never i j m = elim m [ ]
  IsSpan-Means (alt x y) i j m = ⊎_elim (IsSpan-Means x i j) (IsSpan-Means y i j) m

  pub span_forward : (x : Tree) (i j : ℕ) → Means looks h x i j → i ≤ j
  span_forward x i j m = (IsSpan-Means x i j m).forward

  pub span_within : (x : Tree) (i j : ℕ) → i ≤ length h → Means looks h x i j → j ≤ length h
  span_within x i j place m = let span = IsSpan-Means x i j m in omega arith
