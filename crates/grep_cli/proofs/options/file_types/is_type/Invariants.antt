use Rattle.std.proofs.Common.{◌≡◌, drop}
use Rattle.grep_cli.specs.FileTypes.{is_type, rows_of}
use Rattle.grep_cli.proofs.options.file_types.is_type.Given as goal

abbrev pub invariant-loop-row : goal.invariant-loop-row
invariant-loop-row l = is_type l.name (rows_of (drop l.row-index l.types)) ≡ is_type l.name (rows_of l.types)
