use Rattle.std.proofs.Common.{◌≤◌, ◌-◌, length}
use Rattle.hir_core.specs.Tree.{Tree}
use Rattle.literal_search.specs.Searches.{StartsFrom}
use Rattle.meta_regex.specs.Runs.{IsRunOf}
use Rattle.meta_regex.proofs.runs.Run.next.Given as goal

abbrev pub invariant-loop-at : goal.invariant-loop-at
invariant-loop-at l = (l.from ≤ l.at) × (l.at ≤ length l.haystack)
    × ((x : Tree) → IsRunOf l.self x → StartsFrom x l.haystack l.from l.at)

abbrev pub decreases-loop-at : goal.decreases-loop-at
decreases-loop-at l = length l.haystack - l.at
