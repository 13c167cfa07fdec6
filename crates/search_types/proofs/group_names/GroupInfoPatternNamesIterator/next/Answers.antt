use Rattle.std.proofs.Common.{◌<◌, arith, length}
use Rattle.std.specs.Option.{option_copied}
use Rattle.search_types.specs.Groups.{groups_of}
use Rattle.search_types.proofs.GroupLemmas.{pattern_step}
use Rattle.search_types.proofs.group_names.GroupInfoPatternNamesIterator.next.Goals as goal

pub returns-clause-steps : goal.returns-clause-steps
returns-clause-steps c =
    let gs = c.self.inside.info.now in
    let here : c.self.inside.next < length (groups_of gs c.self.inside.pattern) =
    omega (arith, c.if-self-group_len.false, c.group_len.ensures.value) in
    pattern_step gs c.self.inside.pattern c.self.inside.next (option_copied c.to_name-name.result) c.args.self.now c.self.view_is here
    c.to_name-name.ensures.value
