-- The bytes that a search looks at, by their indices: they are consecutive.
use Rattle.std.proofs.Common.{◌≡◌, ℕ, zero, suc, ◌+◌, ◌-◌, ◌<◌, ◌≤◌, Bool, true, false, List, refl, ⊎_elim, subst, arith}
use Rattle.std.proofs.lemmas.Bool.{cases_lt}
use Rattle.search_core.specs.Text.{byte_at, byte_before}
use Rattle.nfa_core.specs.Ways.{offset_of}
use Rattle.determinize_core.specs.Steps.{unit_at, unit_before}
use Rattle.lazy_dfa.specs.Readers.{is_quit}
use Rattle.lazy_dfa.specs.HalfSearchLaws.{IsReached, Agree}

-- ---- from indices to units

pub behind_agrees : (is_reverse : Bool) (h g : List ℕ) (i n : ℕ) → Agree h g (IsReached is_reverse i n) →
    unit_before is_reverse h i ≡ unit_before is_reverse g i
behind_agrees false h g zero n agree = refl
behind_agrees false h g (suc i) n agree = agree i (omega arith, omega arith)
behind_agrees true h g i n agree = agree i (omega arith, omega arith)

-- in reverse, the byte before an offset
before_agrees : (h g : List ℕ) (i n k j : ℕ) → Agree h g (IsReached true i n) → k < n → j ≡ i - k →
    byte_before h j ≡ byte_before g j
before_agrees h g i n k zero agree l is = refl
before_agrees h g i n k (suc j) agree l is = agree j (omega (arith, l, is), omega (arith, is))

pub units_agree : (is_reverse : Bool) (h g : List ℕ) (i n k : ℕ) → Agree h g (IsReached is_reverse i n) → k < n →
    unit_at is_reverse h (offset_of is_reverse i k) ≡ unit_at is_reverse g (offset_of is_reverse i k)
units_agree false h g i n k agree l = agree (i + k) (omega arith, omega (arith, l))
units_agree true h g i n k agree l = before_agrees h g i n k (i - k) agree l refl

-- ---- and back

-- If the look-behind unit of offset i is no quit byte, and no unit from there on is one, then no byte that is reached is one.
pub told_of_each : (quits : List Bool) (is_reverse : Bool) (h : List ℕ) (i n x : ℕ) → is_quit quits (unit_before is_reverse h i) ≡ false →
    ((k : ℕ) → k < n → is_quit quits (unit_at is_reverse h (offset_of is_reverse i k)) ≡ false) → IsReached is_reverse i n x →
    is_quit quits (byte_at h x) ≡ false
told_of_each quits false h i n x back all there = ⊎_elim
    (λ (before : x < i).
    let from = there.0 in
    let is : i ≡ suc x = omega (arith, before, from) in subst (λ (j : ℕ). is_quit quits (byte_before h j) ≡ false) is back)
    (λ (past : i ≤ x).
    let to = there.1 in
    let less : x - i < n = omega (arith, past, to) in
    let is : i + (x - i) ≡ x = omega (arith, past) in
    subst (λ (j : ℕ). is_quit quits (byte_at h j) ≡ false) is (all (x - i) less))
    (cases_lt x i)
told_of_each quits true h i n x back all there = ⊎_elim
    (λ (below : x < i).
    let from = there.0 in
    let less : i - suc x < n = omega (arith, below, from) in
    let is : i - (i - suc x) ≡ suc x = omega (arith, below) in
    subst (λ (j : ℕ). is_quit quits (byte_before h j) ≡ false) is (all (i - suc x) less))
    (λ (at : i ≤ x).
    let to = there.1 in
    let is : i ≡ x = omega (arith, at, to) in subst (λ (j : ℕ). is_quit quits (byte_at h j) ≡ false) is back)
    (cases_lt x i)

-- if an offset is reached after fewer than n units, the byte there is reached
pub place_is_reached : (is_reverse : Bool) (i n k j : ℕ) → k < n → j ≡ offset_of is_reverse i k → IsReached is_reverse i n j
place_is_reached false i n k j l is = (omega (arith, is), omega (arith, l, is))
place_is_reached true i n k j l is = (omega (arith, l, is), omega (arith, is))
