use Rattle.std.proofs.Common.{◌≡◌, ◌≤◌, drop}
use Rattle.globs.specs.Paths.{is_space}
use Rattle.globs.specs.Paths.{kept_len}
use Rattle.globs.proofs.paths.len_without_space.Given as goal

abbrev pub invariant-loop-at : goal.invariant-loop-at
invariant-loop-at l = record {
  len : kept_len is_space l.kept l.at (drop l.at l.text) ≡ kept_len is_space 0 0 l.text;
  within : l.kept ≤ l.at;
}
