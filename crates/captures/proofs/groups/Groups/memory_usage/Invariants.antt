use Rattle.std.proofs.Common.{◌≡◌, ◌+◌, ◌<◌, ◌^◌, drop}
use Rattle.group_finder.specs.Engines.{counted}
use Rattle.captures.specs.Patterns.{all_bytes}
use Rattle.captures.proofs.groups.Groups.memory_usage.Given as goal

-- with what is left it is the whole
abbrev pub invariant-loop-pattern : goal.invariant-loop-pattern
invariant-loop-pattern l = (l.usage < 2 ^ 64) ×
    (counted (l.usage + all_bytes (drop l.pattern l.self.patterns.items)) ≡ counted (all_bytes l.self.patterns.items))
