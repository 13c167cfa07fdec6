use Rattle.std.proofs.Common.{◌≡◌}
use Rattle.grep_core.specs.Printing.{cut_at}
use Rattle.grep_core.proofs.previews.cut_at.Given as goal

abbrev pub invariant-loop-at : goal.invariant-loop-at
invariant-loop-at l = cut_at l.text l.at ≡ cut_at l.text l.most

abbrev pub decreases-loop-at : goal.decreases-loop-at
decreases-loop-at l = l.at
