use Rattle.std.proofs.Common.{rules}
use Rattle.hir_core.proofs.WellFormedLemmas.{IsWellFormed-concat}
use Rattle.hir_core.proofs.hir.Hir.concat.Goals as goal

pub invariant_of-result : goal.invariant_of-result
invariant_of-result c = record {
  known_facts = search rules;
  height_is = search rules;
  count_is = search rules;
  well_formed = IsWellFormed-concat c.args.subs.items;
}
