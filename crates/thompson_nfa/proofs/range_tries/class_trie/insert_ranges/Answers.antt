-- The ranges that were met are in the trie.
use Rattle.std.proofs.Common.{take}
use Rattle.thompson_nfa.proofs.Classes.ClassTrieLemmas.{class_spelled, class_next}
use Rattle.thompson_nfa.proofs.range_tries.class_trie.insert_ranges.Goals as goal

pub insert_range-requires : goal.insert_range-requires
insert_range-requires c = class_spelled _ (take c.loop-range.range-index c.args.ranges.now) c.loop-range.invariant

pub loop-range-preserved : goal.loop-range-preserved
loop-range-preserved c = class_next _ _ c.loop-range.range-index c.args.ranges.now (
  0,
  0,
) c.loop-range-test.true c.loop-range.invariant c.in_ok-insert_range.ensures
