use Rattle.hir_regex.proofs.LoopLemmas.{all_told}
use Rattle.hir_regex.proofs.loops.all_loops_read.Goals as goal

pub returns : goal.returns
returns c = all_told c.args.trees.now c.all_read.result c.all_read.ensures.concat
