use Rattle.std.proofs.Common.{IfSome, Option, subst}
use Rattle.group_finder.specs.declared.finder.GroupFinder.{GroupFinder}
use Rattle.group_finder.specs.Groups.{IsFinderOf}
use Rattle.captures.proofs.pattern_groups.PatternGroups.slots_between.Goals as goal

pub returns-in-Ok-groups_between-clause-written : goal.returns-in-Ok-groups_between-clause-written
returns-in-Ok-groups_between-clause-written c = λ text a of parsed t e ends.
    c.in-Ok-groups_between.ensures.written c.args.config.now text a
    (subst (λ (o : Option GroupFinder). IfSome o (IsFinderOf c.args.config.now text)) c.in-Some.is (c.prepare.ensures.own text of).finder)
    parsed t e ends

pub returns-in-Err-clause-refused : goal.returns-in-Err-clause-refused
returns-in-Err-clause-refused c = λ text of o limit h.
    c.of_new.ensures o c.args.config.now text c.args.size_limit h of.parsed (c.in-Err.ensures.refused text of) limit
