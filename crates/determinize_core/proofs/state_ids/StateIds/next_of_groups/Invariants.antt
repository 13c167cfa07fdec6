use Rattle.std.proofs.Common.{◌≡◌, ◌<◌, length}
use Rattle.determinize_core.specs.StateBytes.{ids_read}
use Rattle.determinize_core.proofs.state_ids.StateIds.next_of_groups.Given as goal

-- what is left with the groups that were read is what was left
abbrev pub invariant-loop-byte : goal.invariant-loop-byte
invariant-loop-byte l = record {
  sum : l.part < l.weight;
  few : l.weight < 34359738368;
  left : ids_read l.self-inside.previous l.part l.weight l.self-inside.bytes.now ≡ l.fn.self;
}

abbrev pub decreases-loop-byte : goal.decreases-loop-byte
decreases-loop-byte l = length l.self-inside.bytes.now
