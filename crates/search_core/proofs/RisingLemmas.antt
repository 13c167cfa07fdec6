-- Classes that start at 0 and rise by at most one from byte to byte: which numbers are met, and when each byte is alone.
use Rattle.std.proofs.Common.{◌≡◌, ℕ, zero, suc, ◌+◌, ◌-◌, ◌<◌, ◌≤◌, ◌⊎◌, Bool, List, length, get_or, sym, ap, ◌∙◌, subst, inl, inr, arith}
use Rattle.std.proofs.Common.{nat_eq, IsTrue, eq-eqb}
use Rattle.std.proofs.lemmas.Bool.{cases_lt, eqb-true}
use Rattle.search_core.specs.Marks.{marks_below}
use Rattle.search_core.specs.Classes.{IsRising}
use Rattle.search_core.proofs.MarkLemmas.{below_zero, below_next}

-- two classes of bytes that are k apart
record IsWithin (low high k : ℕ) : Type 0 where
  above : low ≤ high
  below : high ≤ low + k

rise_once : (low mid high k : ℕ) → IsWithin low mid k → (high ≡ mid) ⊎ (high ≡ mid + 1) → IsWithin low high (suc k)
rise_once low mid high k w (inl e) = let a = w.above in let b = w.below in record { above = omega arith; below = omega arith }
rise_once low mid high k w (inr e) = let a = w.above in let b = w.below in record { above = omega arith; below = omega arith }

met_here : (c mid high : ℕ) → c ≤ high → (high ≡ mid) ⊎ (high ≡ mid + 1) → (high ≡ c) ⊎ (c ≤ mid)
met_here c mid high l (inl e) = inr (omega arith)
met_here c mid high l (inr e) = elim (cases_lt c high) [
  | inl lt ↦ inr (omega arith)
  | inr ge ↦ inl (omega arith)
]

module _ (classes : List ℕ) (r : IsRising classes) where
  rises_by : (b m k : ℕ) → m ≡ b + k → m < 256 → IsWithin (get_or classes b 0) (get_or classes m 0) k
  rises_by b m zero e l =
      let same : b ≡ m = omega arith in
      let P : ℕ → Type 0 = λ i. IsWithin (get_or classes b 0) (get_or classes i 0) 0 in
      subst P same (record { above = omega arith; below = omega arith })
  rises_by b m (suc k) e l =
      let last : (b + k) + 1 ≡ m = omega arith in
      let P : ℕ → Type 0 = λ i. IsWithin (get_or classes b 0) (get_or classes i 0) (suc k) in
      subst P last (rise_once (get_or classes b 0) (get_or classes (b + k) 0) (get_or classes ((b + k) + 1) 0) k
      (rises_by b (b + k) k (omega arith) (omega arith)) (r.next (b + k) (omega arith)))

  -- no class is above that of the last byte
  pub most_by_last : (b : ℕ) → b < 256 → get_or classes b 0 ≤ get_or classes 255 0
  most_by_last b l = (rises_by b 255 (255 - b) (omega arith) (omega arith)).above

  -- and each number up to it is met
  met_below : (c m : ℕ) → m < 256 → c ≤ get_or classes m 0 → (b : ℕ) × (b < 256) × (get_or classes b 0 ≡ c)
  met_below c zero l low = let start = r.start in (0, omega arith, omega arith)
  met_below c (suc m) l low =
      let next : suc m ≡ m + 1 = omega arith in
      let P : ℕ → Type 0 = λ i. (get_or classes i 0 ≡ get_or classes m 0) ⊎ (get_or classes i 0 ≡ get_or classes m 0 + 1) in
      elim (met_here c (get_or classes m 0) (get_or classes (suc m) 0) low (subst P (sym next) (r.next m (omega arith)))) [
        | inl here ↦ (suc m, l, here)
        | inr later ↦ met_below c m (omega arith) later
      ]

  pub met_by_last : (c : ℕ) → c ≤ get_or classes 255 0 → (b : ℕ) × (b < 256) × (get_or classes b 0 ≡ c)
  met_by_last c low = met_below c 255 (omega arith) low

  -- class 255 leaves no byte with another
  pub singletons_by_last : get_or classes 255 0 ≡ 255 → (b : ℕ) → b < 256 → get_or classes b 0 ≡ b
  singletons_by_last e b l =
      let start = r.start in
      let from_start = rises_by 0 b b (omega arith) l in
      let to_last = rises_by b 255 (255 - b) (omega arith) (omega arith) in
      let low = to_last.below in
      let high = from_start.below in
      omega arith

  -- which a length of 257 shows
  pub singletons_told : (n : ℕ) → n ≡ get_or classes 255 0 + 2 →
      (IsTrue (nat_eq n 257) → (b : ℕ) → b < 256 → get_or classes b 0 ≡ b) ×
      (((b : ℕ) → b < 256 → get_or classes b 0 ≡ b) → IsTrue (nat_eq n 257))
  singletons_told n e = (
    λ h. let reported : n ≡ 257 = eqb-true n 257 h in singletons_by_last (omega arith),
    λ own. let last : get_or classes 255 0 ≡ 255 = own 255 (omega arith) in eq-eqb n 257 (omega arith),
  )

-- classes by marks rise
module _ (classes : List ℕ) (marks : List Bool) (n : length marks ≡ 256) (numbered : (b : ℕ) → b < 256 →
    get_or classes b 0 ≡ marks_below marks b) where
  next_by_marks : (b : ℕ) → b < 255 → (marks_below marks (b + 1) ≡ marks_below marks b) ⊎
      (marks_below marks (b + 1) ≡ marks_below marks b + 1) →
      (get_or classes (b + 1) 0 ≡ get_or classes b 0) ⊎ (get_or classes (b + 1) 0 ≡ get_or classes b 0 + 1)
  next_by_marks b l (inl e) = inl (numbered (b + 1) (omega arith) ∙ e ∙ sym (numbered b (omega arith)))
  next_by_marks b l (inr e) = inr (numbered (b + 1) (omega arith) ∙ e ∙ ap (λ (k : ℕ). k + 1) (sym (numbered b (omega arith))))

  pub marks_make_rising : IsRising classes
  marks_make_rising = record {
    start = numbered 0 (omega arith) ∙ below_zero marks;
    next = λ b l. next_by_marks b l (below_next marks b (omega arith));
  }
