use Rattle.lazy_dfa.proofs.OverlappingWalks.WhichLoopLemmas.{told_full}
use Rattle.lazy_dfa.proofs.overlapping.which_patterns.has_all.Goals as goal

pub returns : goal.returns
returns c = told_full c.is_full.result c.args.patterns.now c.is_full.ensures
