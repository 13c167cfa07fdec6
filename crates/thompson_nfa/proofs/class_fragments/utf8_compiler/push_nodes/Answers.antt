use Rattle.std.proofs.Common.{refl, ◌<◌, length}
use Rattle.thompson_nfa.proofs.Classes.StackLemmas.{push_more}
use Rattle.thompson_nfa.proofs.class_fragments.utf8_compiler.push_nodes.Goals as goal

pub loop-i-preserved : goal.loop-i-preserved
loop-i-preserved c =
    let i = c.loop-i.invariant in
    let less : c.loop-i.i < length c.args.ranges.now = c.loop-i-test.true in (
      push_more _ _ _ _ c.args.ranges.now c.loop-i.i _ (record {
        start = 0;
        end = 0;
      }) less refl c.new.ensures c.in_ok-push.ensures.items i.0,
      i.1,
      i.2,
    )
