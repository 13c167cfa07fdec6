use Rattle.std.proofs.Common.{◌≡◌, ◌++◌, map}
use Rattle.std.specs.List.{flat_map}
use Rattle.std.specs.Str.{chars}
use Rattle.globs.specs.Rules.{excluded, rule_of}
use Rattle.grep_cli.proofs.files.rule_files.push_lines.Given as goal

abbrev pub invariant-loop-line : goal.invariant-loop-line
invariant-loop-line l =
    map rule_of l.rules.items ≡ map rule_of l.initial.rules.items ++ flat_map (λ line. excluded (chars line)) (map (λ x. x.now) l.yielded)
