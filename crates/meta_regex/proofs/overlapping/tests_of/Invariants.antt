use Rattle.std.proofs.Common.{◌≡◌, take}
use Rattle.meta_regex.proofs.overlapping.tests_of.Given as goal

-- the tests so far
abbrev pub invariant-loop-number : goal.invariant-loop-number
invariant-loop-number l = l.tests.items ≡ take l.number l.set
