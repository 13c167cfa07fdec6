-- A search for one literal by two of its bytes: what the marks of 32 offsets say of it, and how searches join.
use Rattle.std.proofs.Common.{◌≡◌, ℕ, ◌+◌, ◌-◌, ◌<◌, ◌≤◌, List, ap, ◌∙◌, arith}
use Rattle.std.specs.Int.{bit_at}
use Rattle.std.proofs.lemmas.Nat.Bits.{bit_at-zero}
use Rattle.regex_literal.specs.Find.{Nowhere, OccursAt}
use Rattle.regex_literal.specs.Lanes.{Marks}
use Rattle.regex_literal.proofs.lemmas.FindLemmas.{Nowhere-then}
use Rattle.regex_literal.proofs.lemmas.ScanLemmas.{unmarked}
use Rattle.literal_search.specs.Searches.{IsNear}
use Rattle.literal_search.specs.declared.pair.Near.{Near}
use Rattle.literal_search.specs.declared.pair.Near.TheVariants.{At, Passed}

-- there is no literal before the lowest mark
pub nowhere_below : {P : ℕ → Type 0} (i at m k : ℕ) → Nowhere P i at → Marks P at (at + 32) m → bit_at m k ≡ 1 →
    ((b : ℕ) → b < k → bit_at m b ≡ 0) → (k < 32) × Nowhere P i (at + k)
nowhere_below i at m k before marks set below =
    let within = marks.within k set in (
      omega (arith, within),
      Nowhere-then before (λ p low high. unmarked marks p low (omega (arith, high, within)) (below (p - at) (omega (arith, low, high)))),
    )

-- there is none where nothing is marked
pub nowhere_unmarked : {P : ℕ → Type 0} (i at m : ℕ) → Nowhere P i at → Marks P at (at + 32) m → m ≡ 0 → Nowhere P i (at + 32)
nowhere_unmarked i at m before marks none =
    Nowhere-then before (λ p low high. unmarked marks p low high (ap (λ x. bit_at x (p - at)) none ∙ bit_at-zero _))

-- a search that goes on from where nothing was found before
pub near_after : (l h : List ℕ) (i k : ℕ) → i ≤ k → Nowhere (OccursAt h l) i k → (n : Near) → IsNear l h k n → IsNear l h i n
near_after l h i k low before (At p) n = (omega (arith, low, n.0), Nowhere-then before n.1, n.2)
near_after l h i k low before (Passed p) n = (omega (arith, low, n.0), n.1, Nowhere-then before n.2)
