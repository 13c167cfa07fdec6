use Rattle.std.proofs.Common.{◌≡◌, ◌==◌, ℕ, List, None, Some}
use Rattle.std.specs.List.{position}
use Rattle.grep_core.specs.Blocks.{SearchesBy, finds_by, ReadsAndWrites}
use Rattle.grep_core.specs.ContextPrinting.{Waits}
use Rattle.grep_core.proofs.reading.report_blocks.Given as goal

abbrev pub invariant-loop-blocks : goal.invariant-loop-blocks
invariant-loop-blocks g l = record {
  same : l.finder ≡ l.initial.finder;
  unfed : position (λ b. b == 10) l.read ≡ None;
  waits : Waits l.task.what.now l.progress.telling.course;
  reads : (by : SearchesBy l.task l.initial.finder) (text : List ℕ) → g.R.Read.remaining l.initial.reader ≡ Some text →
      ReadsAndWrites l.task (finds_by l.task by) l.initial.progress l.progress l.initial.read l.read text
      (g.R.Read.remaining l.reader) (g.W.Write.contents l.initial.writer) (g.W.Write.contents l.writer);
}
