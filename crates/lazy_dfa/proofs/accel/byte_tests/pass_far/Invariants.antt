use Rattle.std.proofs.Common.{◌-◌, ◌≤◌}
use Rattle.lazy_dfa.specs.ByteTests.{NoneSatisfies}
use Rattle.lazy_dfa.proofs.accel.byte_tests.pass_far.Given as goal

abbrev pub invariant-far : goal.invariant-far
invariant-far g l = (l.from ≤ l.at) × (l.at ≤ l.end) × NoneSatisfies (g.T.ByteTest.passes l.test) l.haystack l.from l.at

abbrev pub decreases-far : goal.decreases-far
decreases-far g l = l.end - l.at
