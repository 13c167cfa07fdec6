use Rattle.std.proofs.Common.{◌∙◌}
use Rattle.grep_cli.proofs.FirstLemmas.{consumed_more}
use Rattle.grep_cli.proofs.inputs.first_bytes.fill.Goals as goal

pub loop-done-preserved : goal.loop-done-preserved
loop-done-preserved g c = record {
  within = c.in_ok-n.ensures.some;
  long = c.in_ok-n.ensures.long ∙ c.loop-done.invariant.long;
  read = consumed_more _ _ _ c.loop-done.buffer.items c.read_at.new.buffer.items c.loop-done.done c.in_ok-n.n c.loop-done.invariant.read
      c.in_ok-n.ensures.before c.in_ok-n.ensures.read;
}
