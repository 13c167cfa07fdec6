use Rattle.std.proofs.Common.{◌≡◌, drop}
use Rattle.grep_cli.specs.FileTypes.{rows_of}
use Rattle.grep_cli.specs.TypeChanges.{with_rows}
use Rattle.grep_cli.proofs.options.type_changes.push_rows.Given as goal

abbrev pub invariant-loop-row : goal.invariant-loop-row
invariant-loop-row l =
    with_rows l.name (rows_of (drop l.row-index l.more)) (rows_of l.rows.items) ≡ with_rows l.name (rows_of l.more) (rows_of l.initial.rows.items)
