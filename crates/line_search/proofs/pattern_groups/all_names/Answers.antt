use Rattle.line_search.proofs.NumberedLemmas.{one_more_names}
use Rattle.line_search.proofs.pattern_groups.all_names.Goals as goal

pub loop-text-preserved : goal.loop-text-preserved
loop-text-preserved c =
    one_more_names c.args.how.now c.args.texts.now _ c.loop-text.text-index c.loop-text.all.items c.push.new.self.items c.in-Ok.names
    c.loop-text-test.true c.in-Ok-push.ensures.items c.loop-text.invariant c.in-Ok.ensures
