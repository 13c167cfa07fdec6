use Rattle.std.proofs.Common.{◌-◌, ◌≤◌}
use Rattle.lazy_dfa.specs.ByteTests.{NoneSatisfies}
use Rattle.lazy_dfa.proofs.accel.byte_tests.find_wide.Given as goal

abbrev pub invariant-wide : goal.invariant-wide
invariant-wide g l = (l.from ≤ l.at) × (l.at ≤ l.end) × NoneSatisfies (g.T.ByteTest.passes l.test) l.haystack l.from l.at

abbrev pub decreases-wide : goal.decreases-wide
decreases-wide g l = l.end - l.at

abbrev pub invariant-ones : goal.invariant-ones
invariant-ones g l = (l.from ≤ l.at) × (l.at ≤ l.end) × NoneSatisfies (g.T.ByteTest.passes l.test) l.haystack l.from l.at

abbrev pub decreases-ones : goal.decreases-ones
decreases-ones g l = l.end - l.at
