use Rattle.std.proofs.Common.{◌∙◌}
use Rattle.search_types.specs.GroupFaults.{groups_in}
use Rattle.search_types.proofs.SoundLemmas.{sound_groups_fit}
use Rattle.search_types.proofs.group_info.GroupInfo.new.Goals as goal

pub lay_out-requires-clause-in_range : goal.lay_out-requires-clause-in_range
lay_out-requires-clause-in_range c =
    sound_groups_fit (groups_in c.args.groups.now) c.deref.result.now c.in_default.ensures (c.deref.ensures.value
    ∙ c.in_ok-patterns.ensures)
