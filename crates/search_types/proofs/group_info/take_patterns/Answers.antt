use Rattle.std.proofs.Common.{length}
use Rattle.search_types.proofs.SoundLemmas.{next_pattern_is_sound}
use Rattle.search_types.proofs.group_info.take_patterns.Goals as goal

pub new-requires : goal.new-requires
new-requires c =
    next_pattern_is_sound c.args.groups.now c.loop-names.names-index (length c.loop-names.patterns.items) c.names-item.result
    c.deref.result.now c.loop-names-test.true c.names-item.is
    c.deref.ensures.value c.loop-names.invariant.sound
