use Rattle.std.proofs.Common.{◌≡◌, ◌≤◌, drop, length}
use Rattle.grep_cli.specs.FileTypes.{rows_of}
use Rattle.grep_cli.specs.TypeChanges.{end_of}
use Rattle.grep_cli.proofs.options.type_changes.end_of.Given as goal

abbrev pub invariant-loop-at : goal.invariant-loop-at
invariant-loop-at l = record {
  end : end_of l.name l.end l.at (rows_of (drop l.at l.types)) ≡ end_of l.name (length l.types) 0 (rows_of l.types);
  within : l.end ≤ length l.types;
}
