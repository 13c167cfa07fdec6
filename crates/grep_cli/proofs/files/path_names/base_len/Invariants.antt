use Rattle.std.proofs.Common.{◌≡◌, ◌≤◌, drop}
use Rattle.globs.specs.Matching.{is_slash}
use Rattle.globs.specs.Paths.{kept_len}
use Rattle.grep_cli.proofs.files.path_names.base_len.Given as goal

abbrev pub invariant-loop-at : goal.invariant-loop-at
invariant-loop-at l = record {
  len : kept_len is_slash l.kept l.at (drop l.at l.path) ≡ kept_len is_slash 0 0 l.path;
  within : l.kept ≤ l.at;
}
