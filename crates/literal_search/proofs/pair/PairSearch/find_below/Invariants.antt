use Rattle.std.proofs.Common.{◌-◌, ◌≤◌}
use Rattle.regex_literal.specs.Find.{Nowhere, OccursAt}
use Rattle.literal_search.proofs.pair.PairSearch.find_below.Given as goal

abbrev pub invariant-loop-at : goal.invariant-loop-at
invariant-loop-at l = (l.from ≤ l.at) × (l.at ≤ l.end) × Nowhere (OccursAt l.haystack l.self.literal.items) l.from l.at

abbrev pub decreases-loop-at : goal.decreases-loop-at
decreases-loop-at l = l.end - l.at
