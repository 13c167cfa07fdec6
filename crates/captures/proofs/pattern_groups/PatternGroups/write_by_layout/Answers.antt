use Rattle.std.proofs.Common.{IfSome, Option, subst}
use Rattle.group_finder.specs.declared.finder.GroupFinder.{GroupFinder}
use Rattle.group_finder.specs.Groups.{IsFinderOf}
use Rattle.captures.proofs.pattern_groups.PatternGroups.write_by_layout.Goals as goal

pub returns-in-Some-clause-written : goal.returns-in-Some-clause-written
returns-in-Some-clause-written c = λ yes config text a of parsed t e ends.
    c.write_by_layout.ensures.written yes config text a
    (subst (λ (o : Option GroupFinder). IfSome o (IsFinderOf config text)) c.in-Some.is of.finder) parsed t e ends
