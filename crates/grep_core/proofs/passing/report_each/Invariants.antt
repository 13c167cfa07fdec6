use Rattle.std.proofs.Common.{◌-◌, ◌≤◌, drop, length}
use Rattle.grep_core.specs.ContextPrinting.{Waits}
use Rattle.grep_core.specs.Skipping.{PassesLinesTo}
use Rattle.line_search.specs.LineMatchers.{LineMatcher}
use Rattle.grep_core.proofs.passing.report_each.Given as goal

abbrev pub invariant-loop-alloc : goal.invariant-loop-alloc
invariant-loop-alloc l = record {
  in_lines : l.done ≤ length l.lines;
  waits : Waits l.task.what.now l.progress.telling.course;
  passes : (f : LineMatcher) → PassesLinesTo l.task f l.initial.progress l.progress l.lines (drop l.done l.lines) l.initial.out.items
      l.out.items;
}

abbrev pub decreases-loop-alloc : goal.decreases-loop-alloc
decreases-loop-alloc l = length l.lines - l.done
