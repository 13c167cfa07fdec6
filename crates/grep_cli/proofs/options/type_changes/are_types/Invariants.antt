use Rattle.std.proofs.Common.{◌≡◌, drop, map}
use Rattle.grep_cli.specs.FileTypes.{rows_of}
use Rattle.grep_cli.specs.Selecting.{are_types}
use Rattle.grep_cli.proofs.options.type_changes.are_types.Given as goal

abbrev pub invariant-loop-name : goal.invariant-loop-name
invariant-loop-name l =
    are_types (rows_of l.types) (map (λ n. n.now) (drop l.name-index l.names)) ≡ are_types (rows_of l.types) (map (λ n. n.now) l.names)
