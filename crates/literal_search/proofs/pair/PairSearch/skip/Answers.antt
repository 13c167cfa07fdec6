use Rattle.std.proofs.Common.{arith}
use Rattle.regex_literal.proofs.lemmas.FindLemmas.{Nowhere-then}
use Rattle.literal_search.proofs.pair.PairSearch.skip.Goals as goal

pub loop-at-preserved : goal.loop-at-preserved
loop-at-preserved c = (
  omega (arith, c.loop-at.invariant.0),
  omega (arith, c.loop-at-test.true, c.loop-at.invariant.1),
  Nowhere-then c.loop-at.invariant.2 (c.is_quiet.ensures c.if-is_quiet.true),
)
