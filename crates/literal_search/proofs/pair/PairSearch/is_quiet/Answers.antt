use Rattle.std.proofs.Common.{ℕ, ◌+◌, ap, ◌∙◌, arith, ⊎_elim}
use Rattle.std.specs.Int.{bit_at}
use Rattle.std.proofs.lemmas.Nat.Bits.{bit_at-zero}
use Rattle.std.proofs.lemmas.Bool.{eqb-true, cases_lt}
use Rattle.regex_literal.proofs.lemmas.ScanLemmas.{IsLow, IsLow-either, Nowhere-low}
use Rattle.literal_search.proofs.pair.PairSearch.is_quiet.Goals as goal

-- the mask is 0, so each of the four vectors is
pub returns : goal.returns
returns c quiet =
    let clear = λ (k : ℕ). ap (λ m. bit_at m k) (eqb-true _ _ quiet) ∙ bit_at-zero k in
    let all : IsLow c.either.result = λ k l. ⊎_elim (λ e. e) (λ ne. absurd (omega (arith, clear k, (c.top_bits.ensures k).1 ne))) (cases_lt _ 128) in
    let halves = IsLow-either c.either-front.result c.either-back.result c.either.ensures all in
    let front = IsLow-either c.lanes.result c.lanes-2.result c.either-front.ensures halves.0 in
    let back = IsLow-either c.lanes-3.result c.lanes-4.result c.either-back.ensures halves.1 in
    let i = c.args.at in
    λ k low high.
    ⊎_elim (λ l. Nowhere-low c.lanes.ensures front.0 k low l) (λ l.
    ⊎_elim (λ m. Nowhere-low c.lanes-2.ensures front.1 k l (omega arith)) (λ m.
    ⊎_elim (λ n. Nowhere-low c.lanes-3.ensures back.0 k m (omega arith)) (λ n. Nowhere-low c.lanes-4.ensures back.1 k n (omega arith))
    (cases_lt k (i + 96))) (cases_lt k (i + 64))) (cases_lt k (i + 32))
