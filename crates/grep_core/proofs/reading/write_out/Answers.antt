use Rattle.hirscan.proofs.ForCallers.{appends_more, more_in_text}
use Rattle.grep_core.proofs.reading.write_out.Goals as goal

pub loop-done-preserved : goal.loop-done-preserved
loop-done-preserved g c = record {
  in_text = more_in_text _ _ _ c.loop-done.invariant.in_text c.in-Ok.ensures.bound;
  written = appends_more _ _ _ _ _ _ c.loop-done.invariant.written c.in-Ok.ensures.bytes;
}
