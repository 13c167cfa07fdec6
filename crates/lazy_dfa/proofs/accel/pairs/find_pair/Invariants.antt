use Rattle.std.proofs.Common.{◌-◌, ◌≤◌}
use Rattle.lazy_dfa.specs.ByteTests.{NoPairs}
use Rattle.lazy_dfa.proofs.accel.pairs.find_pair.Given as goal

abbrev pub invariant-wide : goal.invariant-wide
invariant-wide g l = (l.from ≤ l.at) × (l.at ≤ l.end) ×
    NoPairs (g.A.ByteTest.passes l.first) (g.B.ByteTest.passes l.second) l.haystack l.from l.at

abbrev pub decreases-wide : goal.decreases-wide
decreases-wide g l = l.end - l.at

abbrev pub invariant-ones : goal.invariant-ones
invariant-ones g l = (l.from ≤ l.at) × (l.at ≤ l.end) ×
    NoPairs (g.A.ByteTest.passes l.first) (g.B.ByteTest.passes l.second) l.haystack l.from l.at

abbrev pub decreases-ones : goal.decreases-ones
decreases-ones g l = l.end - l.at
