use Rattle.std.proofs.Common.{arith, inl, inr}
use Rattle.std.proofs.lemmas.Bool.{cases_lt}
use Rattle.meta_regex.proofs.char_rounds.mark.Goals as goal

pub returns-clause-above : goal.returns-clause-above
returns-clause-above c = λ s above. elim (cases_lt s c.args.first) [
  | inl less ↦ c.loop-scalar.invariant.2 s less
  | inr low ↦ elim c.loop-scalar.invariant.4 [
    | inl same ↦ c.loop-scalar.invariant.3 s (omega (arith, low, same))
    | inr within ↦ c.loop-scalar.invariant.3 s (omega (arith, above, within, c.min-end.ensures, c.saturating_add.ensures))
  ]
]
