use Rattle.std.proofs.Common.{◌≡◌, ◌++◌, map}
use Rattle.std.specs.List.{flat_map}
use Rattle.std.specs.Str.{chars}
use Rattle.globs.specs.Ignoring.{line_rules}
use Rattle.globs.specs.Rules.{rule_of}
use Rattle.globs.proofs.ignoring.push_ignore_rules.Given as goal

abbrev pub invariant-loop-line : goal.invariant-loop-line
invariant-loop-line l =
    map rule_of l.rules.items ≡ map rule_of l.initial.rules.items ++ flat_map (λ line. line_rules (chars line)) (map (λ x. x.now) l.yielded)
