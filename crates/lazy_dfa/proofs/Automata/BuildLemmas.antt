-- The number of transitions of a state, and that there is one for each class.
use Rattle.std.proofs.Common.{◌≡◌, ℕ, zero, suc, ◌*◌, ◌^◌, ◌≤◌, Bool, refl, sym, ap, ⊎_elim, arith, if◌then◌else◌}
use Rattle.std.proofs.lemmas.Bool.Decides.{leb_tells}
use Rattle.std.proofs.Math.Nat.{mul-le-mul_left}
use Rattle.search_core.specs.Classes.{IsLeastExponent}
use Rattle.lazy_dfa.specs.Accounting.{power_from}
use Rattle.lazy_dfa.proofs.Automata.AccountingLemmas.{power_is, twice}

some_power : (j : ℕ) → 1 ≤ 2 ^ j
some_power zero = omega arith
some_power (suc j) = let more = some_power j in let t = twice j in omega (arith, more, t)

at_least : (s j : ℕ) → s ≤ s * 2 ^ j
at_least s j = let more = mul-le-mul_left s (some_power j) in omega (arith, more)

doubled : (s j : ℕ) → 2 * s * 2 ^ j ≡ s * 2 ^ suc j
doubled s j = let t : s * (2 * 2 ^ j) ≡ s * 2 ^ suc j = ap (λ (x : ℕ). s * x) (twice j) in omega (arith, t)

-- the power that is found is at most the last one
pub power_small : (k s n b : ℕ) → s * 2 ^ k ≤ b → power_from k s n ≤ b
power_small zero s n b l = omega (arith, l)
power_small (suc k) s n b l = ⊎_elim
    (λ reported. let e : power_from (suc k) s n ≡ s = ap (λ (x : Bool). if x then s else power_from k (2 * s) n) reported.0 in
    let low = at_least s (suc k) in omega (arith, e, low, l))
    (λ reported. let e : power_from (suc k) s n ≡ power_from k (2 * s) n = ap (λ (x : Bool). if x then s else power_from k (2 * s) n)
    reported.0 in
    let d = doubled s k in
    let later = power_small k (2 * s) n b (omega (arith, d, l)) in omega (arith, e, later))
    (leb_tells n s)

-- if the last power isn't below the number, then the power that is found isn't below it either
pub power_enough : (k s n : ℕ) → n ≤ s * 2 ^ k → n ≤ power_from k s n
power_enough zero s n l = omega (arith, l)
power_enough (suc k) s n l = ⊎_elim
    (λ reported. let e : power_from (suc k) s n ≡ s = ap (λ (x : Bool). if x then s else power_from k (2 * s) n) reported.0 in
    let big = reported.1 in omega (arith, e, big))
    (λ reported. let e : power_from (suc k) s n ≡ power_from k (2 * s) n = ap (λ (x : Bool). if x then s else power_from k (2 * s) n)
    reported.0 in
    let d = doubled s k in
    let later = power_enough k (2 * s) n (omega (arith, d, l)) in omega (arith, e, later))
    (leb_tells n s)

-- the power that is found, by its exponent
pub power_found : (k n : ℕ) → IsLeastExponent k n → k ≤ 9 → 2 ^ k ≡ power_from 9 1 n
power_found k n least most = sym (power_is k n least 9 0 1 refl (omega arith) (omega (arith, most)))
