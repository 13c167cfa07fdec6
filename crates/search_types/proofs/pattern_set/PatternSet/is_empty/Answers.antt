use Rattle.search_types.proofs.PatternSetLemmas.{empty_when_zero}
use Rattle.search_types.proofs.pattern_set.PatternSet.is_empty.Goals as goal

pub returns : goal.returns
returns c = empty_when_zero c.args.self.now c.len.result c.len.ensures.value
