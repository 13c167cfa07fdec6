use Rattle.std.proofs.Common.{◌≡◌, ◌++◌, drop, map}
use Rattle.globs.specs.Rules.{rule_of}
use Rattle.grep_cli.specs.FileTypes.{of_type, rows_of, type_rules}
use Rattle.grep_cli.proofs.options.file_types.push_type.Given as goal

abbrev pub invariant-loop-row : goal.invariant-loop-row
invariant-loop-row l =
    map rule_of l.rules.items ++ type_rules l.selects (of_type l.name (rows_of (drop l.row-index l.types)))
    ≡ map rule_of l.initial.rules.items ++ type_rules l.selects (of_type l.name (rows_of l.types))
