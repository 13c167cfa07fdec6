use Rattle.std.proofs.Common.{◌≡◌, drop, map}
use Rattle.globs.specs.Rules.{decided, rule_of}
use Rattle.globs.proofs.rules.decided.Given as goal

abbrev pub invariant-loop-rule : goal.invariant-loop-rule
invariant-loop-rule l =
    decided l.known (map rule_of (drop l.rule-index l.rules)) l.is_folder l.part l.name
    ≡ decided l.fn.known (map rule_of l.rules) l.is_folder l.part l.name
