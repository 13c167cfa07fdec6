use Rattle.std.proofs.Common.{map}
use Rattle.globs.specs.Rules.{rule_of}
use Rattle.grep_cli.specs.Selecting.{AreIgnored}
use Rattle.grep_cli.proofs.files.rule_files.push_ignore_files.Given as goal

abbrev pub invariant-loop-name : goal.invariant-loop-name
invariant-loop-name l = AreIgnored (map rule_of l.initial.rules.items) (map rule_of l.rules.items) l.name-index
