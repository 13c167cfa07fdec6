use Rattle.std.proofs.Common.{◌≡◌, length, ◌-◌, ◌≤◌, take}
use Rattle.std.specs.Io.KnownBytes.{Consumes}
use Rattle.grep_cli.proofs.inputs.first_bytes.fill.Given as goal

abbrev pub invariant-loop-done : goal.invariant-loop-done
invariant-loop-done g l = record {
  within : l.done ≤ length l.buffer.items;
  long : length l.buffer.items ≡ length l.initial.buffer.items;
  read : Consumes (g.R.Read.remaining l.initial.reader) (g.R.Read.remaining l.reader) (take l.done l.buffer.items);
}

abbrev pub decreases-loop-done : goal.decreases-loop-done
decreases-loop-done g l = length l.buffer.items - l.done
