use Rattle.std.proofs.Common.{◌≡◌, drop, map}
use Rattle.std.specs.List.{list_any}
use Rattle.globs.specs.Rules.{rule_of}
use Rattle.globs.proofs.rules.any_selects.Given as goal

abbrev pub invariant-loop-rule : goal.invariant-loop-rule
invariant-loop-rule l = list_any (λ r. r.selects) (map rule_of (drop l.rule-index l.rules)) ≡ list_any (λ r. r.selects) (map rule_of l.rules)
