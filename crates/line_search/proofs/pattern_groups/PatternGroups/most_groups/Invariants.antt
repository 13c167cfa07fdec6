use Rattle.std.proofs.Common.{◌≡◌, drop}
use Rattle.line_search.specs.Replacing.{most_groups}
use Rattle.line_search.proofs.pattern_groups.PatternGroups.most_groups.Given as goal

abbrev pub invariant-loop-i : goal.invariant-loop-i
invariant-loop-i l = l.most ≡ most_groups (drop l.i l.self-inside.names.items)
