-- Which spans of a haystack an expression tree matches. An offset is a number from 0 to the haystack's length. The
-- definitions don't require that a span's start is one, but a span that starts at an offset ends at one.
use Rattle.std.specs.Prelude.{◌≡◌, ℕ, zero, suc, ◌+◌, ◌≤◌, Bool, List, length, Option, Some, None, ◌⊎◌, IsTrue, ◌&&◌, nat_le, nat_eq}
use Rattle.std.specs.Prelude.{slice_get, slice_range, drop}
use Rattle.std.specs.List.{starts_with, list_any}
use Rattle.search_core.specs.Utf8.{Spells}
use Rattle.look_core.specs.declared.look.Look.{Look}
use Rattle.hir_core.specs.Tree.{Tree, empty, literal, byte_class, char_class, look, repetition, capture, nothing, cat, never, alt}

-- whether the haystack has these bytes at i
abbrev pub stands : List ℕ → ℕ → List ℕ → Bool
stands h i bytes = starts_with nat_eq (drop i h) bytes

-- whether the byte or the scalar is in one of the ranges
abbrev pub is_member : List (ℕ × ℕ) → ℕ → Bool
is_member ranges b = list_any (λ r. nat_le r.0 b && nat_le b r.1) ranges

-- n is not above the bound, if there is one
abbrev pub AtMost : ℕ → Option ℕ → Type 0
AtMost n None = Unit {0}
AtMost n (Some most) = n ≤ most

-- n spans of R, joined end to end, lead from i to j
abbrev pub Rounds : (ℕ → ℕ → Type 0) → ℕ → ℕ → ℕ → Type 0
Rounds R zero i j = i ≡ j
Rounds R (suc n) i j = (k : ℕ) × R i k × Rounds R n k j

-- how looks are read: whether a look holds at an offset of the haystack
abbrev pub Looks : Type 0
Looks = Look → ℕ → Bool

-- the span i..j of h spells a scalar of one of the ranges
pub record SpellsMember (h : List ℕ) (ranges : List (ℕ × ℕ)) (i j : ℕ) : Type 0 where
  pub scalar : ℕ
  pub forward : i ≤ j
  pub within : j ≤ length h
  pub spells : Spells scalar (slice_range h i j)
  pub member : IsTrue (is_member ranges scalar)

-- the tree matches the span i..j of the haystack h, with looks read so
abbrev pub Means : Looks → List ℕ → Tree → ℕ → ℕ → Type 0
Means looks h empty i j = i ≡ j
Means looks h (literal bytes) i j = (j ≡ i + length bytes) × IsTrue (stands h i bytes)
Means looks h (byte_class ranges) i j = (j ≡ i + 1) × (b : ℕ) × (slice_get h i ≡ Some b) × IsTrue (is_member ranges b)
Means looks h (char_class ranges) i j = SpellsMember h ranges i j
Means looks h (look l) i j = (i ≡ j) × IsTrue (looks l i)
Means looks h (repetition min max greedy x) i j = (n : ℕ) × (min ≤ n) × AtMost n max × Rounds (Means looks h x) n i j
Means looks h (capture index name x) i j = Means looks h x i j
Means looks h nothing i j = i ≡ j
Means looks h (cat x y) i j = (k : ℕ) × Means looks h x i k × Means looks h y k j
Means looks h never i j = ⊥
Means looks h (alt x y) i j = Means looks h x i j ⊎ Means looks h y i j
