use Rattle.std.proofs.Common.{◌≡◌, ◌≤◌, drop}
use Rattle.globs.specs.Matching.{is_slash}
use Rattle.globs.specs.Paths.{kept_len}
use Rattle.globs.proofs.paths.len_without_slashes.Given as goal

abbrev pub invariant-loop-at : goal.invariant-loop-at
invariant-loop-at l = record {
  len : kept_len is_slash l.kept l.at (drop l.at l.text) ≡ kept_len is_slash 0 0 l.text;
  within : l.kept ≤ l.at;
}
