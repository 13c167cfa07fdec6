use Rattle.std.proofs.Common.{◌≡◌, drop, map, false}
use Rattle.std.specs.List.{list_any}
use Rattle.globs.specs.Rules.{rule_of}
use Rattle.grep_options.specs.FileOptions.{given_of}
use Rattle.grep_cli.specs.Selecting.{names_rules}
use Rattle.grep_cli.proofs.SelectingLemmas.{AreAdded}
use Rattle.grep_cli.proofs.files.selecting_files.push_values.Given as goal

abbrev pub invariant-loop-value : goal.invariant-loop-value
invariant-loop-value l = record {
  rules : AreAdded (map rule_of l.initial.rules.items) (map rule_of l.rules.items) (map given_of l.values)
      (map given_of (drop l.value-index l.values));
  sure : list_any (λ v. names_rules v.option) (map given_of l.values) ≡ false
      → list_any (λ v. names_rules v.option) (map given_of (drop l.value-index l.values)) ≡ false;
}
