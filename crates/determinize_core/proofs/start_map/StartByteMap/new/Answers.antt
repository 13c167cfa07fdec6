use Rattle.std.proofs.Common.{Some, arith, length-set}
use Rattle.determinize_core.specs.Starts.{start_of}
use Rattle.determinize_core.proofs.StartLemmas.{filled_more}
use Rattle.determinize_core.proofs.start_map.StartByteMap.new.Goals as goal

pub loop-byte-preserved : goal.loop-byte-preserved
loop-byte-preserved g c = record {
  len = rw length-set c.loop-byte.invariant.len;
  table = filled_more (λ b. start_of c.get_line_terminator-terminator.result (Some b)) c.loop-byte.map c.loop-byte.byte
      c.start_of_byte.result (omega arith) c.loop-byte.invariant.table c.start_of_byte.ensures;
}
