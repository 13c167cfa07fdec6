-- The equations of a repetition. That the count of rounds of an unbounded one cuts nothing short is the third.
use Rattle.std.proofs.Common.{◌≡◌, ℕ, zero, suc, ◌+◌, ◌-◌, ◌<◌, ◌≤◌, Bool, true, false, List, [], ◌∷◌, length, Some, None, refl, sym, ap}
use Rattle.std.proofs.Common.{◌∙◌, arith}
use Rattle.std.specs.List.{flat_map}
use Rattle.hir_core.specs.Tree.{Tree, repetition}
use Rattle.hir_core.specs.Means.{Looks}
use Rattle.hir_core.specs.PreferredEnds.{Ends, in_order, exactly, up_to, between, unbounded, preferred_ends, Has}
use Rattle.hir_core.specs.Facts.{minimum_len, IsAboveZero}
use Rattle.hir_core.proofs.HasLemmas.{flat_map_same, nil_from_none}
use Rattle.hir_core.proofs.SpanLemmas.{IsSpan-Means}
use Rattle.hir_core.proofs.MinimumLenLemmas.{reads_a_byte}
use Rattle.hir_core.proofs.PreferredEndsLemmas.{preferred_ends_sound}

in_order-nil : (greedy : Bool) (i : ℕ) → in_order greedy [] i ≡ i ∷ []
in_order-nil true i = refl
in_order-nil false i = refl

module _ (h : List ℕ) (greedy : Bool) (body : Ends) (reading : (i k : ℕ) → Has (body i) k → (i < k) × (k ≤ length h)) where
  body_at_end : (i : ℕ) → length h ≤ i → body i ≡ []
  body_at_end i l = nil_from_none (body i) (λ k m. let step = reading i k m in omega arith)

  -- more rounds than the bytes that are left change nothing
  pub up_to_enough : (n m i : ℕ) → length h ≤ i + n → length h ≤ i + m → up_to greedy body n i ≡ up_to greedy body m i
  up_to_enough zero zero i p q = refl
  up_to_enough zero (suc m) i p q =
      sym (ap (λ xs. in_order greedy (flat_map (up_to greedy body m) xs) i) (body_at_end i (omega arith)) ∙ in_order-nil greedy i)
  up_to_enough (suc n) zero i p q =
      ap (λ xs. in_order greedy (flat_map (up_to greedy body n) xs) i) (body_at_end i (omega arith)) ∙ in_order-nil greedy i
  up_to_enough (suc n) (suc m) i p q =
      ap (λ xs. in_order greedy xs i)
      (flat_map_same (up_to greedy body n) (up_to greedy body m) (body i)
      (λ k r. let step = reading i k r in up_to_enough n m k (omega arith) (omega arith)))

  unbounded-more : (i : ℕ) → unbounded h greedy body i ≡ in_order greedy (flat_map (unbounded h greedy body) (body i)) i
  unbounded-more i =
      let n = length h - i in
      up_to_enough n (suc n) i (omega arith) (omega arith)
      ∙ ap (λ xs. in_order greedy xs i)
      (flat_map_same (up_to greedy body n) (unbounded h greedy body) (body i)
      (λ k r. let step = reading i k r in up_to_enough n (length h - k) k (omega arith) (omega arith)))

-- while a round is owed, both bounds fall by one
pub repetition_owed : (looks : Looks) (h : List ℕ) (greedy : Bool) (x : Tree) (min : ℕ) (i : ℕ) →
    preferred_ends looks h (repetition (suc min) None greedy x) i
    ≡ flat_map (preferred_ends looks h (repetition min None greedy x)) (preferred_ends looks h x i)
repetition_owed looks h greedy x min i = refl

pub repetition_owed_bounded : (looks : Looks) (h : List ℕ) (greedy : Bool) (x : Tree) (min most : ℕ) (i : ℕ) →
    preferred_ends looks h (repetition (suc min) (Some (suc most)) greedy x) i
    ≡ flat_map (preferred_ends looks h (repetition min (Some most) greedy x)) (preferred_ends looks h x i)
repetition_owed_bounded looks h greedy x min most i = refl

-- equal bounds: so many rounds
between_exactly : (greedy : Bool) (body : Ends) (n i : ℕ) → between greedy body n n i ≡ exactly body n i
between_exactly greedy body zero i = refl
between_exactly greedy body (suc n) i = flat_map_same _ _ (body i) (λ k r. between_exactly greedy body n k)

pub repetition_exact : (looks : Looks) (h : List ℕ) (greedy : Bool) (x : Tree) (n i : ℕ) →
    preferred_ends looks h (repetition n (Some n) greedy x) i ≡ exactly (preferred_ends looks h x) n i
repetition_exact looks h greedy x n i = between_exactly greedy (preferred_ends looks h x) n i

-- no round is owed and none is left
pub repetition_stopped : (looks : Looks) (h : List ℕ) (greedy : Bool) (x : Tree) (i : ℕ) →
    preferred_ends looks h (repetition 0 (Some 0) greedy x) i ≡ i ∷ []
repetition_stopped looks h greedy x i = refl

-- no round is owed: more rounds, or stop
pub repetition_more_bounded : (looks : Looks) (h : List ℕ) (greedy : Bool) (x : Tree) (most : ℕ) (i : ℕ) →
    preferred_ends looks h (repetition 0 (Some (suc most)) greedy x) i
    ≡ in_order greedy (flat_map (preferred_ends looks h (repetition 0 (Some most) greedy x)) (preferred_ends looks h x i)) i
repetition_more_bounded looks h greedy x most i = refl

-- each round of a body whose minimum length is above 0 consumes a byte
pub rounds_read : (looks : Looks) (h : List ℕ) (x : Tree) → IsAboveZero (minimum_len x) → (i k : ℕ) → Has (preferred_ends looks h x i) k →
    (i < k) × (k ≤ length h)
rounds_read looks h x a i k r =
    let m = preferred_ends_sound looks h x i k r in
    let longer = reads_a_byte looks h x a i k m in
    let span = IsSpan-Means looks h x i k m in
    (longer, omega arith)

pub repetition_more : (looks : Looks) (h : List ℕ) (greedy : Bool) (x : Tree) → IsAboveZero (minimum_len x) → (i : ℕ) →
    preferred_ends looks h (repetition 0 None greedy x) i
    ≡ in_order greedy (flat_map (preferred_ends looks h (repetition 0 None greedy x)) (preferred_ends looks h x i)) i
repetition_more looks h greedy x a i = unbounded-more h greedy (preferred_ends looks h x) (rounds_read looks h x a) i
