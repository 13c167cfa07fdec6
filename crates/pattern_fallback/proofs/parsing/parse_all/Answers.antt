use Rattle.pattern_fallback.proofs.ParsedLemmas.{one_more_parsed}
use Rattle.pattern_fallback.proofs.parsing.parse_all.Goals as goal

pub loop-text-preserved : goal.loop-text-preserved
loop-text-preserved c =
    one_more_parsed c.args.config.now c.args.texts.now _ c.loop-text.text-index c.loop-text.all.hirs.items c.push.new.self.hirs.items
    c.in_ok-parsed.parsed.hir c.loop-text-test.true c.in_ok-push.ensures c.loop-text.invariant c.in_ok-parsed.ensures
