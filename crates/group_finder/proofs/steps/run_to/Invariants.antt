use Rattle.std.proofs.Common.{◌≡◌, ◌-◌}
use Rattle.group_finder.specs.Layouts.{run_end}
use Rattle.group_finder.proofs.steps.run_to.Given as goal

-- the bytes so far are in the set
abbrev pub invariant-loop-at : goal.invariant-loop-at
invariant-loop-at l = run_end l.set l.haystack (l.end - l.from) l.from ≡ run_end l.set l.haystack (l.end - l.at) l.at
