-- Relations between offsets when reading in reverse: what leads from j to i, for reading from i down to j, not below the haystack's start.
use Rattle.std.proofs.Common.{ℕ, zero, suc, ◌≤◌, min, refl, sym, subst, arith}
use Rattle.hir_core.specs.Means.{Rounds}

-- R leads from j to i, and j is not below the start unless i is
abbrev pub InReverse : ℕ → (ℕ → ℕ → Type 0) → ℕ → ℕ → Type 0
InReverse start R i j = R j i × (min i start ≤ j)

abbrev pub IsForward : (ℕ → ℕ → Type 0) → Type 0
IsForward R = (i j : ℕ) → R i j → i ≤ j

-- one more round after the others
pub rounds_more : (R : ℕ → ℕ → Type 0) (n i k j : ℕ) → Rounds R n i k → R k j → Rounds R (suc n) i j
rounds_more R zero i k j r s = let P : ℕ → Type 0 = λ m. R m j in (j, subst P (sym r) s, refl)
rounds_more R (suc n) i k j r s = (r.0, r.1, rounds_more R n r.0 k j r.2 s)

-- the last round
pub rounds_last : (R : ℕ → ℕ → Type 0) (n i j : ℕ) → Rounds R (suc n) i j → (k : ℕ) × Rounds R n i k × R k j
rounds_last R zero i j r = let P : ℕ → Type 0 = λ m. R i m in (i, refl, subst P r.2 r.1)
rounds_last R (suc n) i j r = let z = rounds_last R n r.0 j r.2 in (z.0, (r.0, r.1, z.1), z.2)

pub rounds_forward : (R : ℕ → ℕ → Type 0) → IsForward R → (n : ℕ) → IsForward (Rounds R n)
rounds_forward R f zero i j r = omega arith
rounds_forward R f (suc n) i j r = let a = f i r.0 r.1 in let b = rounds_forward R f n r.0 j r.2 in omega arith

module _ (start : ℕ) (R : ℕ → ℕ → Type 0) (forward : IsForward R) where
  pub reverse_rounds : (n i j : ℕ) → Rounds R n j i → min i start ≤ j → Rounds (InReverse start R) n i j
  reverse_rounds zero i j r low = sym r
  reverse_rounds (suc n) i j r low =
      let z = rounds_last R n j i r in
      let a = rounds_forward R forward n j z.0 z.1 in
      let b = forward z.0 i z.2 in
      (z.0, (z.2, omega arith), reverse_rounds n z.0 j z.1 (omega arith))

  pub rounds_reverse : (n i j : ℕ) → Rounds (InReverse start R) n i j → InReverse start (Rounds R n) i j
  rounds_reverse zero i j r = (sym r, omega arith)
  rounds_reverse (suc n) i j r =
      let z = rounds_reverse n r.0 j r.2 in
      let low = r.1.1 in
      let less = z.1 in
      (rounds_more R n j r.0 i z.0 r.1.0, omega arith)

module _ (start : ℕ) (R S : ℕ → ℕ → Type 0) (first : IsForward R) (second : IsForward S) where
  -- what comes last forward comes first in reverse
  pub reverse_join : (i j : ℕ) → InReverse start (λ a b. (k : ℕ) × R a k × S k b) i j → (k : ℕ) × InReverse start S i k ×
      InReverse start R k j
  reverse_join i j m =
      let a = first j m.0.0 m.0.1 in
      let b = second m.0.0 i m.0.2 in
      let low = m.1 in
      (m.0.0, (m.0.2, omega arith), (m.0.1, omega arith))

  pub join_reverse : (i j k : ℕ) → InReverse start S i k → InReverse start R k j → InReverse start (λ a b. (k : ℕ) × R a k × S k b) i j
  join_reverse i j k s r =
      let low = s.1 in
      let less = r.1 in
      ((k, r.0, s.0), omega arith)
