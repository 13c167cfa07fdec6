use Rattle.std.proofs.Common.{◌≡◌, ◌≤◌, ◌==◌, count_by, take}
use Rattle.grep_core.proofs.passing.count_few.Given as goal

abbrev pub invariant-loop-b : goal.invariant-loop-b
invariant-loop-b l = (l.feeds ≡ count_by (λ b. b == 10) (take l.b-index l.part)) × (l.feeds ≤ l.b-index)
