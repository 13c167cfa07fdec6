use Rattle.std.proofs.Common.{Ok}
use Rattle.grep_core.specs.Blocks.{WritesFirstLines}
use Rattle.grep_core.proofs.reading.write_beginning.Given as goal

abbrev pub invariant-loop-pieces : goal.invariant-loop-pieces
invariant-loop-pieces g l = WritesFirstLines l.task l.initial.finder l.finder l.initial.progress l.progress l.read
    (g.W.Write.contents l.initial.writer) (g.W.Write.contents l.writer) (Ok l.done)
