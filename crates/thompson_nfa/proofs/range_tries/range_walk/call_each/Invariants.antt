use Rattle.std.proofs.Common.{length}
use Rattle.thompson_nfa.specs.RangeWalks.{paths_of}
use Rattle.thompson_nfa.specs.RangeCalls.{CallsAll, CallsUpTo}
use Rattle.thompson_nfa.proofs.range_tries.range_walk.call_each.Given as goal

abbrev pub invariant-loop-path : goal.invariant-loop-path
invariant-loop-path g l = record {
  callable : goal.F-IsAlwaysCallable g l.f;
  all : CallsAll (goal.F-step g) l.f (paths_of l.rest) → CallsAll (goal.F-step g) l.fn.f (paths_of l.fn.paths);
  up_to : (e : _) → CallsUpTo (goal.F-step g) l.f (paths_of l.rest) e → CallsUpTo (goal.F-step g) l.fn.f (paths_of l.fn.paths) e;
}

abbrev pub decreases-loop-path : goal.decreases-loop-path
decreases-loop-path g l = length l.rest
