-- The preferred ends are the ends of the spans that the tree means: no others, and all of them.
use Rattle.std.proofs.Common.{◌≡◌, ℕ, zero, suc, ◌+◌, ◌-◌, ◌≤◌, Bool, true, List, length, Option, Some, None, slice_get, refl, sym, ap, ◌∙◌}
use Rattle.std.proofs.Common.{subst, inl, inr, arith}
use Rattle.hir_core.specs.Tree.{Tree, empty, literal, byte_class, char_class, look, repetition, capture, nothing, cat, never, alt}
use Rattle.hir_core.specs.Means.{Looks, Means, Rounds, AtMost, is_member}
use Rattle.hir_core.specs.Spans.{IsSpan}
use Rattle.hir_core.specs.PreferredEnds.{Ends, up_to, at_least, between, repeated, class_end, preferred_ends, Has}
use Rattle.std.proofs.Math.Nat.{eq-or-lt_of_le}
use Rattle.hir_core.proofs.HasLemmas.{Has-left, Has-right, Has-append, Has-flat_map, Has-into-flat_map, Has-in_order, Has-more, Has-stop}
use Rattle.hir_core.proofs.HasLemmas.{Has-if, Has-then}
use Rattle.hir_core.proofs.SpanLemmas.{IsSpan-Means}
use Rattle.hir_core.proofs.SpellingLemmas.{character_end_sound, character_end_complete}

-- Each end of the body is a span of R, so each end of a repetition is of rounds of R.
module _ (R : ℕ → ℕ → Type 0) (body : Ends) (sound : (i j : ℕ) → Has (body i) j → R i j) (greedy : Bool) where
  up_to_sound : (n i j : ℕ) → Has (up_to greedy body n i) j → (m : ℕ) × (m ≤ n) × Rounds R m i j
  up_to_sound zero i j (inl e) = (0, omega arith, e)
  up_to_sound zero i j (inr h) = elim h [ ]
  up_to_sound (suc n) i j h = elim (Has-in_order greedy _ i j h) [
    | inl more ↦
        let step = Has-flat_map (up_to greedy body n) (body i) j more in
        let others = up_to_sound n step.0 j step.2 in
        (suc others.0, omega arith, (step.0, sound i step.0 step.1, others.2))
    | inr e ↦ (0, omega arith, e)
  ]

  at_least_sound : (h : List ℕ) (min i j : ℕ) → Has (at_least h greedy body min i) j → (n : ℕ) × (min ≤ n) × Rounds R n i j
  at_least_sound h zero i j g = let rounds = up_to_sound (length h - i) i j g in (rounds.0, omega arith, rounds.2)
  at_least_sound h (suc min) i j g =
      let step = Has-flat_map (at_least h greedy body min) (body i) j g in
      let others = at_least_sound h min step.0 j step.2 in
      (suc others.0, omega arith, (step.0, sound i step.0 step.1, others.2))

  between_sound : (min most i j : ℕ) → Has (between greedy body min most i) j → (n : ℕ) × (min ≤ n) × (n ≤ most) × Rounds R n i j
  between_sound zero most i j g = let rounds = up_to_sound most i j g in (rounds.0, omega arith, rounds.1, rounds.2)
  between_sound (suc min) zero i j g = elim g [ ]
  between_sound (suc min) (suc most) i j g =
      let step = Has-flat_map (between greedy body min most) (body i) j g in
      let others = between_sound min most step.0 j step.2 in
      (suc others.0, omega arith, omega arith, (step.0, sound i step.0 step.1, others.3))

  repeated_sound : (h : List ℕ) (min : ℕ) (most : Option ℕ) (i j : ℕ) → Has (repeated h min most greedy body i) j →
      (n : ℕ) × (min ≤ n) × AtMost n most × Rounds R n i j
  repeated_sound h min None i j g = let rounds = at_least_sound h min i j g in (rounds.0, rounds.1, tt, rounds.2)
  repeated_sound h min (Some most) i j g = between_sound min most i j g

class_end_sound : (ranges : List (ℕ × ℕ)) (o : Option ℕ) (i j : ℕ) → Has (class_end ranges o i) j →
    (j ≡ i + 1) × (b : ℕ) × (o ≡ Some b) × (is_member ranges b ≡ true)
class_end_sound ranges None i j g = elim g [ ]
class_end_sound ranges (Some b) i j g = let one = Has-if _ (i + 1) j g in (sym one.1, b, refl, one.0)

pub preferred_ends_sound : (looks : Looks) (h : List ℕ) (x : Tree) (i j : ℕ) → Has (preferred_ends looks h x i) j → Means looks h x i j
preferred_ends_sound looks h empty i j (inl e) = e
preferred_ends_sound looks h empty i j (inr g) = elim g [ ]
preferred_ends_sound looks h (literal bytes) i j g = let one = Has-if _ (i + length bytes) j g in (sym one.1, one.0)
preferred_ends_sound looks h (byte_class ranges) i j g = class_end_sound ranges (slice_get h i) i j g
preferred_ends_sound looks h (char_class ranges) i j g = character_end_sound h ranges i j g
preferred_ends_sound looks h (look l) i j g = let one = Has-if _ i j g in (one.1, one.0)
preferred_ends_sound looks h (repetition min most greedy x) i j g =
    repeated_sound (Means looks h x) (preferred_ends looks h x) (preferred_ends_sound looks h x) greedy h min most i j g
preferred_ends_sound looks h (capture index name x) i j g = preferred_ends_sound looks h x i j g
preferred_ends_sound looks h nothing i j (inl e) = e
preferred_ends_sound looks h nothing i j (inr g) = elim g [ ]
preferred_ends_sound looks h (cat x y) i j g =
    let step = Has-flat_map (preferred_ends looks h y) (preferred_ends looks h x i) j g in
    (step.0, preferred_ends_sound looks h x i step.0 step.1, preferred_ends_sound looks h y step.0 j step.2)
preferred_ends_sound looks h never i j g = elim g [ ]
preferred_ends_sound looks h (alt x y) i j g = elim (Has-append (preferred_ends looks h x i) (preferred_ends looks h y i) j g) [
  | inl a ↦ inl (preferred_ends_sound looks h x i j a)
  | inr b ↦ inr (preferred_ends_sound looks h y i j b)
]

-- A round that consumes nothing may be left out, so no more rounds are needed than bytes are left.
rounds_within : (h : List ℕ) (R : ℕ → ℕ → Type 0) → ((i j : ℕ) → R i j → IsSpan h i j) →
    (n i j : ℕ) → Rounds R n i j → (m : ℕ) × (m ≤ length h - i) × Rounds R m i j
rounds_within h R span zero i j r = (0, omega arith, r)
rounds_within h R span (suc n) i j r =
    let others = rounds_within h R span n r.0 j r.2 in
    let step = span i r.0 r.1 in
    elim (eq-or-lt_of_le step.forward) [
      | inl same ↦
          let P : ℕ → Type 0 = λ k. (m : ℕ) × (m ≤ length h - k) × Rounds R m k j in
          subst P (sym same) others
      | inr reads ↦ (suc others.0, omega arith, (r.0, r.1, others.2))
    ]

-- Each span of R is an end of the body, so each number of rounds of R is an end of a repetition.
module _ (R : ℕ → ℕ → Type 0) (body : Ends) (complete : (i j : ℕ) → R i j → Has (body i) j) (greedy : Bool) where
  up_to_complete : (n m i j : ℕ) → m ≤ n → Rounds R m i j → Has (up_to greedy body n i) j
  up_to_complete zero zero i j le r = inl r
  up_to_complete zero (suc m) i j le r = absurd (omega arith)
  up_to_complete (suc n) zero i j le r = Has-stop greedy _ i j r
  up_to_complete (suc n) (suc m) i j le r =
      Has-more greedy _ i j
      (Has-into-flat_map (up_to greedy body n) (body i) r.0 j (complete i r.0 r.1) (up_to_complete n m r.0 j (omega arith) r.2))

  between_complete : (min most n i j : ℕ) → min ≤ n → n ≤ most → Rounds R n i j → Has (between greedy body min most i) j
  between_complete zero most n i j low high r = up_to_complete most n i j high r
  between_complete (suc min) zero n i j low high r = absurd (omega arith)
  between_complete (suc min) (suc most) zero i j low high r = absurd (omega arith)
  between_complete (suc min) (suc most) (suc n) i j low high r =
      Has-into-flat_map (between greedy body min most) (body i) r.0 j (complete i r.0 r.1)
      (between_complete min most n r.0 j (omega arith) (omega arith) r.2)

  at_least_complete : (h : List ℕ) → ((i j : ℕ) → R i j → IsSpan h i j) →
      (min n i j : ℕ) → min ≤ n → Rounds R n i j → Has (at_least h greedy body min i) j
  at_least_complete h span zero n i j low r =
      let few = rounds_within h R span n i j r in
      up_to_complete (length h - i) few.0 i j few.1 few.2
  at_least_complete h span (suc min) zero i j low r = absurd (omega arith)
  at_least_complete h span (suc min) (suc n) i j low r =
      Has-into-flat_map (at_least h greedy body min) (body i) r.0 j (complete i r.0 r.1)
      (at_least_complete h span min n r.0 j (omega arith) r.2)

class_end_complete : (ranges : List (ℕ × ℕ)) (o : Option ℕ) (i j b : ℕ) → j ≡ i + 1 → o ≡ Some b → is_member ranges b ≡ true →
    Has (class_end ranges o i) j
class_end_complete ranges None i j b e s t = cc
class_end_complete ranges (Some c) i j b e s t =
    Has-then _ (i + 1) j (let same : c ≡ b = cc in ap (is_member ranges) same ∙ t) (sym e)

pub preferred_ends_complete : (looks : Looks) (h : List ℕ) (x : Tree) (i j : ℕ) → Means looks h x i j → Has (preferred_ends looks h x i) j
preferred_ends_complete looks h empty i j m = inl m
preferred_ends_complete looks h (literal bytes) i j m = Has-then _ (i + length bytes) j m.1 (sym m.0)
preferred_ends_complete looks h (byte_class ranges) i j m = class_end_complete ranges (slice_get h i) i j m.1 m.0 m.2 m.3
preferred_ends_complete looks h (char_class ranges) i j m = character_end_complete h ranges i j m
preferred_ends_complete looks h (look l) i j m = Has-then _ i j m.1 m.0
preferred_ends_complete looks h (repetition min None greedy x) i j m =
    at_least_complete (Means looks h x) (preferred_ends looks h x) (preferred_ends_complete looks h x) greedy h
    (IsSpan-Means looks h x) min m.0 i j m.1 m.3
preferred_ends_complete looks h (repetition min (Some most) greedy x) i j m =
    between_complete (Means looks h x) (preferred_ends looks h x) (preferred_ends_complete looks h x) greedy min most m.0 i j m.1 m.2 m.3
preferred_ends_complete looks h (capture index name x) i j m = preferred_ends_complete looks h x i j m
preferred_ends_complete looks h nothing i j m = inl m
preferred_ends_complete looks h (cat x y) i j m =
    Has-into-flat_map (preferred_ends looks h y) (preferred_ends looks h x i) m.0 j
    (preferred_ends_complete looks h x i m.0 m.1) (preferred_ends_complete looks h y m.0 j m.2)
preferred_ends_complete looks h never i j m = elim m [ ]
preferred_ends_complete looks h (alt x y) i j (inl m) = Has-left (preferred_ends looks h x i) (preferred_ends looks h y i) j
    (preferred_ends_complete looks h x i j m)
preferred_ends_complete looks h (alt x y) i j (inr m) = Has-right (preferred_ends looks h x i) (preferred_ends looks h y i) j
    (preferred_ends_complete looks h y i j m)
