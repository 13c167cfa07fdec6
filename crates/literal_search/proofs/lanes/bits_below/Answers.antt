use Rattle.std.proofs.Common.{ℕ, ◌-◌, sym, ap, ◌∙◌, arith, bit_and}
use Rattle.std.specs.Int.{bit_at}
use Rattle.std.proofs.Common.{pow_pos}
use Rattle.regex_literal.proofs.lemmas.BitLemmas.{bit_at_low_kept, bit_at_low_only, shl_one}
use Rattle.literal_search.proofs.lanes.bits_below.Goals as goal

pub overflow_sub-result : goal.overflow_sub-result
overflow_sub-result c = omega (arith, shl_one c.args.count c.requires, pow_pos c.args.count)

pub returns : goal.returns
returns c =
    let m = c.args.mask in
    let n = c.args.count in
    let same = λ (k : ℕ). ap (λ x. bit_at (bit_and m (x - 1)) k) (shl_one n c.requires) in
    record { kept = λ k l. same k ∙ bit_at_low_kept m n k l; no_more = λ k h. bit_at_low_only m n k (sym (same k) ∙ h) }
