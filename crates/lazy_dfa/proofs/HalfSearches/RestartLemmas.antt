-- Scans that restart if an end doesn't count.
use Rattle.std.proofs.Common.{◌≡◌, ℕ, zero, suc, ◌-◌, ◌<◌, ◌≤◌, Bool, true, false, not, List, Some, None, if◌then◌else◌, refl, sym, ap, ◌∙◌}
use Rattle.std.proofs.Common.{arith}
use Rattle.nfa_core.specs.Ways.{offset_of}
use Rattle.search_types.specs.declared.anchored.Anchored.{Anchored}
use Rattle.search_types.specs.Places.{counts}
use Rattle.lazy_dfa.specs.Readers.{Reader, HalfAnswer, found, quit, unsupported}
use Rattle.lazy_dfa.specs.Scans.{next_offset, scan}
use Rattle.lazy_dfa.specs.HalfSearches.{unless_split, rescans}
use Rattle.lazy_dfa.specs.ScanLaws.{splits, scan_of}
use Rattle.lazy_dfa.proofs.HalfSearches.TurnLemmas.{place_later}
use Rattle.nfa_core.proofs.ForCallers.{place_zero}

if_counts : (b : Bool) (e : ℕ × ℕ) (other : HalfAnswer) → not b ≡ false → (if b then found (Some e) else other) ≡ found (Some e)
if_counts true e other is = refl
if_counts false e other is = let never : true ≡ false = is in cc

if_splits : (b : Bool) (e : ℕ × ℕ) (other : HalfAnswer) → not b ≡ true → (if b then found (Some e) else other) ≡ other
if_splits true e other is = let never : false ≡ true = is in cc
if_splits false e other is = refl

pub whole_stays : (counted : ℕ → Bool) (a other : HalfAnswer) → splits counted a ≡ false → unless_split counted a other ≡ a
whole_stays counted (quit b x) other e = refl
whole_stays counted (unsupported mode) other e = refl
whole_stays counted (found None) other e = refl
whole_stays counted (found (Some p)) other e = if_counts (counted p.0) p other e

pub split_goes : (counted : ℕ → Bool) (a other : HalfAnswer) → splits counted a ≡ true → unless_split counted a other ≡ other
split_goes counted (quit b x) other e = let never : false ≡ true = e in cc
split_goes counted (unsupported mode) other e = let never : false ≡ true = e in cc
split_goes counted (found None) other e = let never : false ≡ true = e in cc
split_goes counted (found (Some p)) other e = if_splits (counted p.0) p other e

module _ (r : Reader) (mode : Anchored) (earliest : Bool) (h : List ℕ) where
  abbrev later : ℕ → ℕ → ℕ → HalfAnswer
  later n i m = scan_of r mode earliest h n i m

  pub later_first : (n i : ℕ) → later n i 0 ≡ scan r mode earliest h n i
  later_first n i = ap (λ (j : ℕ). scan r mode earliest h (n - 0) j) (place_zero r.automaton.reverse i)
      ∙ ap (λ (d : ℕ). scan r mode earliest h d i) (zero_off n)
    where
      zero_off : (n : ℕ) → n - 0 ≡ n
      zero_off n = omega arith

  pub later_next : (n i m : ℕ) → later n (next_offset r i) m ≡ later (suc n) i (suc m)
  later_next n i m = ap (scan r mode earliest h (n - m)) (place_later r.automaton.reverse i m)
      ∙ ap (λ (d : ℕ). scan r mode earliest h d (offset_of r.automaton.reverse i (suc m))) (one_off n m)
    where
      one_off : (n m : ℕ) → n - m ≡ suc n - suc m
      one_off n m = omega arith

  abbrev split : HalfAnswer → Bool
  split a = splits (counts r.between_characters h) a

  pub first_whole : (n i k : ℕ) → k ≤ n → ((m : ℕ) → m < k → split (later n i m) ≡ true) → split (later n i k) ≡ false →
      rescans r mode earliest h n i ≡ later n i k
  first_whole zero i zero l all here =
      whole_stays (counts r.between_characters h) (scan r mode earliest h 0 i) (found None)
      (ap split (sym (later_first 0 i)) ∙ here) ∙ sym (later_first 0 i)
  first_whole zero i (suc k) l all here = absurd (omega (arith, l))
  first_whole (suc n) i zero l all here =
      whole_stays (counts r.between_characters h) (scan r mode earliest h (suc n) i) (rescans r mode earliest h n (next_offset r i))
      (ap split (sym (later_first (suc n) i)) ∙ here) ∙ sym (later_first (suc n) i)
  first_whole (suc n) i (suc k) l all here =
      split_goes (counts r.between_characters h) (scan r mode earliest h (suc n) i) (rescans r mode earliest h n (next_offset r i))
      (ap split (sym (later_first (suc n) i)) ∙ all 0 (omega arith))
      ∙ first_whole n (next_offset r i) k (omega (arith, l))
      (λ m less. ap split (later_next n i m) ∙ all (suc m) (omega (arith, less))) (ap split (later_next n i k) ∙ here)
      ∙ later_next n i k

  pub all_split : (n i : ℕ) → ((m : ℕ) → m ≤ n → split (later n i m) ≡ true) → rescans r mode earliest h n i ≡ found None
  all_split zero i all =
      split_goes (counts r.between_characters h) (scan r mode earliest h 0 i) (found None)
      (ap split (sym (later_first 0 i)) ∙ all 0 (omega arith))
  all_split (suc n) i all =
      split_goes (counts r.between_characters h) (scan r mode earliest h (suc n) i) (rescans r mode earliest h n (next_offset r i))
      (ap split (sym (later_first (suc n) i)) ∙ all 0 (omega arith))
      ∙ all_split n (next_offset r i) (λ m less. ap split (later_next n i m) ∙ all (suc m) (omega (arith, less)))
