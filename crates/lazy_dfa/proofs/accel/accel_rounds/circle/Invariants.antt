use Rattle.std.proofs.Common.{◌-◌}
use Rattle.lazy_dfa.specs.Stretches.{SkipsTo}
use Rattle.lazy_dfa.proofs.accel.accel_rounds.circle.Given as goal

abbrev pub invariant-round : goal.invariant-round
invariant-round g l = SkipsTo l.dfa l.cache l.haystack l.id l.from l.end l.at

abbrev pub decreases-round : goal.decreases-round
decreases-round g l = l.end - l.at
