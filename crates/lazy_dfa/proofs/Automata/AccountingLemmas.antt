-- How many bytes caches are counted to need.
use Rattle.std.proofs.Common.{◌≡◌, ℕ, zero, suc, ◌+◌, ◌*◌, ◌^◌, ◌<◌, ◌≤◌, Bool, List, ◌∷◌, ◌++◌, length, sym, []}
use Rattle.std.proofs.Common.{ap, ◌∙◌, ⊎_elim, arith, if◌then◌else◌}
use Rattle.std.proofs.lemmas.Bool.{cases_lt}
use Rattle.std.proofs.lemmas.Bool.Decides.{leb_tells}
use Rattle.std.proofs.Math.Nat.{pow-succ'}
use Rattle.search_core.specs.Classes.{IsLeastExponent}
use Rattle.determinize_core.specs.States.{StateValue}
use Rattle.determinize_core.specs.StateBytes.{encoded}
use Rattle.lazy_dfa.specs.Accounting.{Measures, power_from, state_cost, states_cost, measured_usage}

-- ---- powers of two

pub twice : (j : ℕ) → 2 * 2 ^ j ≡ 2 ^ suc j
twice j = sym (pow-succ' 2 j)

module _ (k n : ℕ) (least : IsLeastExponent k n) where
  -- the power before it is too small
  too_small : (j : ℕ) → j ≤ k → n ≤ 2 ^ j → j ≡ k
  too_small j up big = ⊎_elim
      (λ (less : j < k). let small = least.1 j less in absurd (omega (arith, small, big)))
      (λ (l : k ≤ j). omega (arith, up, l))
      (cases_lt j k)

  too_big : (j : ℕ) → j ≤ k → 2 ^ j < n → j < k
  too_big j up small = ⊎_elim
      (λ (less : j < k). less)
      (λ (l : k ≤ j).
      let same : 2 ^ k ≡ 2 ^ j = ap (λ (i : ℕ). 2 ^ i) (at j up l) in
      let fits = least.0 in absurd (omega (arith, same, fits, small)))
      (cases_lt j k)
    where
      at : (j : ℕ) → j ≤ k → k ≤ j → k ≡ j
      at j up l = omega (arith, up, l)

  pub power_is : (more j s : ℕ) → s ≡ 2 ^ j → j ≤ k → k ≤ j + more → power_from more s n ≡ 2 ^ k
  power_is zero j s is up to = is ∙ ap (λ (i : ℕ). 2 ^ i) (at j up to)
    where
      at : (j : ℕ) → j ≤ k → k ≤ j + 0 → j ≡ k
      at j up to = omega (arith, up, to)
  power_is (suc more) j s is up to = ⊎_elim
      (λ reported. let big = reported.1 in
      ap (λ (b : Bool). if b then s else power_from more (2 * s) n) reported.0
      ∙ is ∙ ap (λ (i : ℕ). 2 ^ i) (too_small j up (omega (arith, big, is))))
      (λ reported. let small = reported.1 in
      let less : j < k = too_big j up (omega (arith, small, is)) in
      ap (λ (b : Bool). if b then s else power_from more (2 * s) n) reported.0
      ∙ power_is more (suc j) (2 * s) (ap (λ (x : ℕ). 2 * x) is ∙ twice j) (omega (arith, less)) (omega (arith, to)))
      (leb_tells n s)

-- ---- states

pub costs_of_more : (stride : ℕ) (held : List StateValue) (v : StateValue) →
    states_cost stride (held ++ v ∷ []) ≡ states_cost stride held + state_cost stride (length (encoded v))
costs_of_more stride [] v = omega arith
costs_of_more stride (w ∷ held) v = let rest = costs_of_more stride held v in omega (arith, rest)

pub usage_of_more : (m : Measures) (held : List StateValue) (v : StateValue) →
    measured_usage m (held ++ v ∷ []) ≡ measured_usage m held + state_cost m.stride (length (encoded v))
usage_of_more m held v = let rest = costs_of_more m.stride held v in omega (arith, rest)

-- ---- capacities
