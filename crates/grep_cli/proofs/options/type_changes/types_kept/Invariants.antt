use Rattle.std.proofs.Common.{◌≡◌, ◌++◌, drop, map}
use Rattle.grep_cli.specs.FileTypes.{rows_of}
use Rattle.grep_cli.specs.TypeChanges.{types_kept}
use Rattle.grep_cli.proofs.options.type_changes.types_kept.Given as goal

abbrev pub invariant-loop-row : goal.invariant-loop-row
invariant-loop-row l =
    rows_of l.rows.items ++ types_kept (map (λ n. n.now) l.names) (rows_of (drop l.row-index l.types)) ≡ types_kept (map (λ n. n.now) l.names) (rows_of l.types)
