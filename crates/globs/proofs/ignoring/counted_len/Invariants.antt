use Rattle.std.proofs.Common.{◌≡◌, ◌≤◌, drop, false}
use Rattle.globs.specs.Ignoring.{counted_len}
use Rattle.globs.proofs.ignoring.counted_len.Given as goal

abbrev pub invariant-loop-at : goal.invariant-loop-at
invariant-loop-at l = record {
  len : counted_len l.escaped l.kept l.at (drop l.at l.line) ≡ counted_len false 0 0 l.line;
  within : l.kept ≤ l.at;
}
