use Rattle.std.proofs.Common.{◌≡◌, ◌++◌, drop, map}
use Rattle.globs.specs.Rules.{rule_of}
use Rattle.grep_cli.specs.Selecting.{folder_rules}
use Rattle.grep_cli.proofs.files.selecting_files.push_folders.Given as goal

abbrev pub invariant-loop-text : goal.invariant-loop-text
invariant-loop-text l =
    map rule_of l.rules.items ++ folder_rules (map (λ t. t.now) (drop l.text-index l.texts))
    ≡ map rule_of l.initial.rules.items ++ folder_rules (map (λ t. t.now) l.texts)
