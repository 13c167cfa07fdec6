use Rattle.std.proofs.Common.{◌≡◌, drop, map}
use Rattle.grep_cli.specs.FileTypes.{row_of}
use Rattle.grep_cli.specs.TypeChanges.{is_cleared}
use Rattle.grep_cli.proofs.options.type_changes.is_cleared.Given as goal

abbrev pub invariant-loop-name : goal.invariant-loop-name
invariant-loop-name l = is_cleared (map (λ n. n.now) (drop l.name-index l.names)) (row_of l.row) ≡ is_cleared (map (λ n. n.now) l.names) (row_of l.row)
