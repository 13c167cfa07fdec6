use Rattle.std.proofs.Common.{length}
use Rattle.group_finder.proofs.GroupLemmas.{decoded}
use Rattle.group_finder.proofs.finder.find_offsets.Goals as goal

pub returns-clause-groups : goal.returns-clause-groups
returns-clause-groups c =
    decoded _ (length c.args.offsets.now) c.find_cells.new.cells _ c.in_ok-found.ensures.groups c.decode.ensures
