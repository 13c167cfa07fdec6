use Rattle.std.proofs.Common.{◌≡◌, ◌≤◌, length}
use Rattle.group_finder.specs.Layouts.{steps_write, written}
use Rattle.group_finder.proofs.steps.walk.Given as goal

-- what is written so far, and what the steps from here on write, is all
abbrev pub invariant-loop-step : goal.invariant-loop-step
invariant-loop-step l = (l.at ≤ l.end) ×
    (written (steps_write l.haystack l.end l.left l.at) l.slots ≡ written (steps_write l.haystack l.end l.steps l.start) l.fn.slots)

abbrev pub decreases-loop-step : goal.decreases-loop-step
decreases-loop-step l = length l.left
