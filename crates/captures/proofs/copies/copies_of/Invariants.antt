use Rattle.std.proofs.Common.{ℕ, List, drop, ◌++◌}
use Rattle.regex_syntax.specs.declared.Config.{Config}
use Rattle.captures.specs.Patterns.{ArePatternGroups}
use Rattle.captures.proofs.copies.copies_of.Given as goal

-- the copies so far, followed by the groups that are left, are of the patterns of which the groups are
abbrev pub invariant-loop-group : goal.invariant-loop-group
invariant-loop-group l = (config : Config) (texts : List (List ℕ)) → ArePatternGroups config texts l.groups →
    ArePatternGroups config texts (l.copies.items ++ drop l.group-index l.groups)
