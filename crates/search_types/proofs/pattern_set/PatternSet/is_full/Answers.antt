use Rattle.search_types.proofs.PatternSetLemmas.{full_when_all}
use Rattle.search_types.proofs.pattern_set.PatternSet.is_full.Goals as goal

pub returns : goal.returns
returns c = full_when_all c.args.self.now c.len.result c.capacity.result c.len.ensures.value c.capacity.ensures.value
