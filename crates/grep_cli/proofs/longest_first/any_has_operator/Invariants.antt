use Rattle.std.proofs.Common.{◌≡◌, drop, map}
use Rattle.std.specs.List.{list_any}
use Rattle.grep_cli.specs.Strings.{has_operator}
use Rattle.grep_cli.proofs.longest_first.any_has_operator.Given as goal

abbrev pub invariant-loop-pattern : goal.invariant-loop-pattern
invariant-loop-pattern l = list_any has_operator (map (λ p. p.now) (drop l.pattern-index l.patterns)) ≡ list_any has_operator (map (λ p. p.now) l.patterns)
