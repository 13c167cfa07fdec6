use Rattle.std.proofs.Common.{◌-◌, ◌≤◌, length}
use Rattle.meta_regex.proofs.literal_starts.line_start.Given as goal

abbrev pub invariant-loop-start : goal.invariant-loop-start
invariant-loop-start l = (l.start ≤ l.offset) × (l.start ≤ length l.haystack)

abbrev pub decreases-loop-start : goal.decreases-loop-start
decreases-loop-start l = l.start - l.from
