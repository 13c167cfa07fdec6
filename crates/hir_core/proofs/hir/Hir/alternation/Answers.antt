use Rattle.std.proofs.Common.{rules}
use Rattle.hir_core.proofs.WellFormedLemmas.{IsWellFormed-alternation}
use Rattle.hir_core.proofs.hir.Hir.alternation.Goals as goal

pub invariant_of-result : goal.invariant_of-result
invariant_of-result c = record {
  known_facts = search rules;
  height_is = search rules;
  count_is = search rules;
  well_formed = IsWellFormed-alternation c.args.subs.items;
}
