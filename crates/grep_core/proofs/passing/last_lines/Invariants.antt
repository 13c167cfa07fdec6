use Rattle.std.proofs.Common.{◌≤◌, ◌-◌, ◌==◌, count_by, drop, length}
use Rattle.line_search.specs.Candidates.{IsLineStart}
use Rattle.grep_core.proofs.passing.last_lines.Given as goal

abbrev pub invariant-loop-found : goal.invariant-loop-found
invariant-loop-found l = record {
  in_lines : l.start ≤ length l.lines;
  starts : IsLineStart l.lines l.start;
  few : l.found ≤ l.count;
  enough : l.found ≤ count_by (λ b. b == 10) (drop l.start l.lines);
}

abbrev pub decreases-loop-found : goal.decreases-loop-found
decreases-loop-found l = l.count - l.found
