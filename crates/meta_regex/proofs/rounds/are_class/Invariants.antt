use Rattle.std.proofs.Common.{length}
use Rattle.meta_regex.specs.Rounds.{HaveEndsOf}
use Rattle.meta_regex.proofs.rounds.are_class.Given as goal

abbrev pub invariant-loop-x : goal.invariant-loop-x
invariant-loop-x l = HaveEndsOf l.left l.class → HaveEndsOf l.xs l.class

abbrev pub decreases-loop-x : goal.decreases-loop-x
decreases-loop-x l = length l.left
