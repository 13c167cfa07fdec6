use Rattle.std.proofs.Common.{append_assoc}
use Rattle.json_events.proofs.events.write_submatches.Goals as goal

pub loop-span-init : goal.loop-span-init
loop-span-init c = record {
  before = cc (c.begin_array.ensures.room.0, c.key.ensures.room.0);
  tokens = simp (c.in_ok-begin_array.ensures.ok, c.in_ok-key.ensures.ok, append_assoc);
}
