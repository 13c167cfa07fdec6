use Rattle.std.proofs.Common.{◌≡◌, ◌++◌, drop, map}
use Rattle.globs.specs.Rules.{rule_of}
use Rattle.grep_cli.specs.FileTypes.{rows_of}
use Rattle.grep_cli.specs.Selecting.{are_types, named_types}
use Rattle.grep_cli.proofs.files.selecting_files.push_named_types.Given as goal

abbrev pub invariant-loop-name : goal.invariant-loop-name
invariant-loop-name l = record {
  known : are_types (rows_of l.types) (map (λ n. n.now) (drop l.name-index l.names))
      ≡ are_types (rows_of l.types) (map (λ n. n.now) l.names);
  rules : map rule_of l.rules.items ++ named_types l.selects (rows_of l.types) (map (λ n. n.now) (drop l.name-index l.names))
      ≡ map rule_of l.initial.rules.items ++ named_types l.selects (rows_of l.types) (map (λ n. n.now) l.names);
}
