use Rattle.std.proofs.Common.{◌≡◌, drop, map}
use Rattle.grep_cli.specs.FileTypes.{rows_of}
use Rattle.grep_cli.specs.TypeChanges.{are_definitions, with_definitions}
use Rattle.grep_cli.proofs.options.type_changes.add_all.Given as goal

abbrev pub invariant-loop-text : goal.invariant-loop-text
invariant-loop-text l = record {
  is : are_definitions (rows_of l.rows.items) (map (λ t. t.now) (drop l.text-index l.texts))
      ≡ are_definitions (rows_of l.initial.rows.items) (map (λ t. t.now) l.texts);
  rows : with_definitions (rows_of l.rows.items) (map (λ t. t.now) (drop l.text-index l.texts))
      ≡ with_definitions (rows_of l.initial.rows.items) (map (λ t. t.now) l.texts);
}
