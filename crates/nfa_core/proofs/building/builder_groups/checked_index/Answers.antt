use Rattle.std.proofs.Common.{◌<◌, refl, rules}
use Rattle.search_core.specs.Index.{greatest_index}
use Rattle.search_types.specs.GroupFaults.{TooManyGroups}
use Rattle.nfa_core.proofs.OrderLemmas.{index_refused}
use Rattle.nfa_core.proofs.building.builder_groups.checked_index.Goals as goal

pub returns-in_default : goal.returns-in_default
returns-in_default c =
    let above : greatest_index < c.args.index = search rules in
    let e = index_refused c.args.pattern c.args.index above in ((TooManyGroups c.args.pattern c.args.index, e, refl), e, λ _h. refl)
