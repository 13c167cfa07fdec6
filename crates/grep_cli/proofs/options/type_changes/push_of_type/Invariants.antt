use Rattle.std.proofs.Common.{◌≡◌, ◌++◌, drop}
use Rattle.grep_cli.specs.FileTypes.{of_type, rows_of}
use Rattle.grep_cli.proofs.options.type_changes.push_of_type.Given as goal

abbrev pub invariant-loop-row : goal.invariant-loop-row
invariant-loop-row l =
    rows_of l.found.items ++ of_type l.name (rows_of (drop l.row-index l.types)) ≡ rows_of l.initial.found.items ++ of_type l.name (rows_of l.types)
