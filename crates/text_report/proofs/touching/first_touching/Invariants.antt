use Rattle.std.proofs.Common.{◌≡◌, ◌≤◌, ◌-◌, ℕ, Bool, drop, length, map}
use Rattle.std.specs.List.{filter}
use Rattle.line_search.specs.LineMatchers.{span_pair}
use Rattle.text_report.specs.Touching.{counts_at}
use Rattle.text_report.proofs.touching.first_touching.Given as goal

abbrev pub invariant-loop-at : goal.invariant-loop-at
invariant-loop-at l = (begun : Bool) (start end : ℕ) → l.place ≤ start →
    filter (counts_at begun start end) (map span_pair (drop l.initial.at l.found))
    ≡ filter (counts_at begun start end) (map span_pair (drop l.at l.found))

abbrev pub decreases-loop-at : goal.decreases-loop-at
decreases-loop-at l = length l.found - l.at
