use Rattle.std.proofs.Common.{◌≡◌, ◌+◌, ◌≤◌, drop}
use Rattle.grep_cli.specs.Selecting.{slashes}
use Rattle.grep_cli.proofs.files.path_names.slashes.Given as goal

abbrev pub invariant-loop-byte : goal.invariant-loop-byte
invariant-loop-byte l = record {
  count : l.count + slashes (drop l.byte-index l.part) ≡ slashes l.part;
  within : l.count ≤ l.byte-index;
}
