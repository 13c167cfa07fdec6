use Rattle.std.proofs.Common.{arith}
use Rattle.meta_regex.proofs.CharLemmas.{one_more}
use Rattle.hir_core.specs.PreferredEnds.{preferred_ends}
use Rattle.meta_regex.proofs.char_rounds.rounds_from.Goals as goal

pub loop-end-preserved : goal.loop-end-preserved
loop-end-preserved c = (
  omega (arith, c.loop-end.invariant.0, c.in-To.ensures.advances.0),
  c.in-To.ensures.advances.1,
  λ x it looks.
      one_more (preferred_ends looks c.args.haystack.now x) c.loop-end.count c.args.start c.loop-end.at c.in-To.end
      (c.loop-end.invariant.2 x it looks) c.in-To.ensures.advances.0 (c.in-To.ensures.is x it looks),
)

pub returns-in-Missing : goal.returns-in-Missing
returns-in-Missing c = λ x it. record {
  within = c.loop-end.invariant.1;
  lead = c.loop-end.invariant.2 x it;
  last = c.in-Missing.ensures.is x it;
}
