use Rattle.std.proofs.Common.{◌≡◌, ◌-◌, ◌≤◌, drop, take}
use Rattle.grep_core.specs.Blocks.{ReportsUpTo}
use Rattle.line_search.specs.Candidates.{IsLineStart}
use Rattle.grep_core.specs.ContextPrinting.{Waits}
use Rattle.grep_core.proofs.blocks.report_block.Given as goal

abbrev pub invariant-loop-done : goal.invariant-loop-done
invariant-loop-done l = record {
  in_whole : l.done ≤ l.whole;
  starts : IsLineStart (take l.whole l.block) l.done;
  same : l.finder ≡ l.initial.finder;
  waits : Waits l.task.what.now l.progress.telling.course;
  reports : ReportsUpTo l.task l.initial.finder l.initial.progress l.progress l.initial.out.items l.out.items l.block (drop l.done l.block);
}

abbrev pub decreases-loop-done : goal.decreases-loop-done
decreases-loop-done l = l.whole - l.done
