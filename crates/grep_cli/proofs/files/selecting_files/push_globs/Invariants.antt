use Rattle.std.proofs.Common.{◌≡◌, ◌++◌, drop, map}
use Rattle.globs.specs.Rules.{rule_of}
use Rattle.grep_cli.specs.Selecting.{are_sound, glob_rules}
use Rattle.grep_cli.proofs.files.selecting_files.push_globs.Given as goal

abbrev pub invariant-loop-text : goal.invariant-loop-text
invariant-loop-text l = record {
  sound : are_sound l.folds (map (λ t. t.now) (drop l.text-index l.texts)) ≡ are_sound l.folds (map (λ t. t.now) l.texts);
  rules : map rule_of l.rules.items ++ glob_rules l.folds (map (λ t. t.now) (drop l.text-index l.texts))
      ≡ map rule_of l.initial.rules.items ++ glob_rules l.folds (map (λ t. t.now) l.texts);
}
