use Rattle.literal_search.specs.Literals.{ListsPrefixes}
use Rattle.literal_search.proofs.sets.cut_to_fit.Given as goal

abbrev pub invariant-loop-len : goal.invariant-loop-len
invariant-loop-len l = ListsPrefixes l.from l.short

abbrev pub decreases-loop-len : goal.decreases-loop-len
decreases-loop-len l = l.len
