use Rattle.std.proofs.Common.{◌≡◌, ◌+◌, drop}
use Rattle.grep_core.specs.Printing.{blanks}
use Rattle.grep_core.proofs.printing.blanks.Given as goal

abbrev pub invariant-loop-at : goal.invariant-loop-at
invariant-loop-at l = blanks l.text ≡ l.at + blanks (drop l.at l.text)
