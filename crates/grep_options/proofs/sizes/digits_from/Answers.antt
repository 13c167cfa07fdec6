use Rattle.std.proofs.Common.{◌≡◌, ◌∙◌, ◌<◌, ℕ, suc, List, None, ap, drop, drop-cons, get_or, length, sym}
use Rattle.std.specs.Prelude.{option_and_then}
use Rattle.grep_options.specs.Sizes.{digits_from, add_decimal}
use Rattle.grep_options.proofs.sizes.digits_from.Goals as goal

stopped : (digits : List ℕ) (n start i : ℕ) → i < length digits → add_decimal n (get_or digits i 0) ≡ None
    → digits_from n (drop i digits) ≡ digits_from start digits → digits_from start digits ≡ None
stopped digits n start i below none so_far =
    sym so_far
    ∙ (ap (digits_from n) (drop-cons digits i 0 below) ∙ ap (option_and_then (λ m. digits_from m (drop (suc i) digits))) none)

pub returns-in_err-number : goal.returns-in_err-number
returns-in_err-number c =
    let none = sym c.add_decimal.ensures ∙ c.in_err-number.was in
    c.from_residual.ensures
    ∙ sym (stopped c.args.digits.now c.loop-byte.number c.args.start c.loop-byte.byte-index c.loop-byte-test.true none c.loop-byte.invariant)
