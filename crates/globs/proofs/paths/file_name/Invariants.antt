use Rattle.std.proofs.Common.{◌≡◌, ◌≤◌, drop}
use Rattle.globs.specs.Paths.{name_begin}
use Rattle.globs.proofs.paths.file_name.Given as goal

abbrev pub invariant-loop-at : goal.invariant-loop-at
invariant-loop-at l = record {
  len : name_begin l.begin l.at (drop l.at l.path) ≡ name_begin 0 0 l.path;
  within : l.begin ≤ l.at;
}
