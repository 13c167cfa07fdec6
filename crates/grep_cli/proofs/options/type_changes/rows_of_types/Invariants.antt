use Rattle.std.proofs.Common.{◌≡◌, ◌++◌, drop, map}
use Rattle.grep_cli.specs.FileTypes.{rows_of}
use Rattle.grep_cli.specs.TypeChanges.{rows_of_types}
use Rattle.grep_cli.proofs.options.type_changes.rows_of_types.Given as goal

abbrev pub invariant-loop-name : goal.invariant-loop-name
invariant-loop-name l =
    rows_of l.found.items ++ rows_of_types (map (λ n. n.now) (drop l.name-index l.names)) (rows_of l.types)
    ≡ rows_of_types (map (λ n. n.now) l.names) (rows_of l.types)
