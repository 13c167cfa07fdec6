use Rattle.std.proofs.Common.{sym, ap, ◌∙◌, arith}
use Rattle.hir_core.specs.Tree.{alternation}
use Rattle.hir_core.specs.Node.{node}
use Rattle.hir_core.specs.Weight.{weight}
use Rattle.hir_core.proofs.PartLemmas.{weight_in_concat, weight_of_either}
use Rattle.hir_core.proofs.hir.+try_clone.Goals as goal

pub clone_all-try_clone-requires : goal.clone_all-try_clone-requires
clone_all-try_clone-requires t c = (
  omega (arith, weight_in_concat c.args.subs.now c.loop-sub.sub-index c.sub-item.result c.loop-sub-test.true, ap weight c.sub-item.is),
  tt,
)

pub clone_kind-clone_all-requires-in-Alternation : goal.clone_kind-clone_all-requires-in-Alternation
clone_kind-clone_all-requires-in-Alternation t c =
    let is = ap alternation c.deref-in-Alternation.ensures.value ∙ sym (ap node c.in-Alternation.is) in
    (omega (arith, weight_of_either c.deref-in-Alternation.result.now, ap weight is), tt)
