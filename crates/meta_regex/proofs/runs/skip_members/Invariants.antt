use Rattle.std.proofs.Common.{◌≡◌, ◌≤◌, ◌<◌, ◌-◌, ℕ, true, get_or}
use Rattle.search_core.specs.ByteSets.{has}
use Rattle.meta_regex.proofs.runs.skip_members.Given as goal

abbrev pub invariant-loop-at : goal.invariant-loop-at
invariant-loop-at l = (l.from ≤ l.at) × (l.at ≤ l.end)
    × ((k : ℕ) → l.from ≤ k → k < l.at → has l.set (get_or l.haystack k 0) ≡ true)

abbrev pub decreases-loop-at : goal.decreases-loop-at
decreases-loop-at l = l.end - l.at
