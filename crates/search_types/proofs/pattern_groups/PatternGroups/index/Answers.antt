use Rattle.std.proofs.Common.{Some, ap, ◌∙◌}
use Rattle.std.specs.List.{position}
use Rattle.search_types.specs.Groups.{is_named}
use Rattle.search_types.proofs.pattern_groups.PatternGroups.index.Goals as goal

pub returns-in-Some : goal.returns-in-Some
returns-in-Some c =
    ap Some c.as_usize.ensures.value ∙ c.in-Some.ensures.value ∙ c.self.invariant.finds c.args.name.now
    ∙ ap (position (is_named c.args.name.now)) c.self.view_is

pub returns-in-None : goal.returns-in-None
returns-in-None c =
    c.in-None.ensures.value ∙ c.self.invariant.finds c.args.name.now ∙ ap (position (is_named c.args.name.now)) c.self.view_is
