use Rattle.std.proofs.Common.{sym, ap, ◌∙◌, arith}
use Rattle.hir_core.specs.Tree.{alternation, concat}
use Rattle.hir_core.specs.Node.{node}
use Rattle.hir_core.specs.Weight.{weight}
use Rattle.hir_core.proofs.ForCallers.{weight_in_concat, weight_of_either}
use Rattle.meta_regex.proofs.first_bytes.+may_begin.Goals as goal

pub sequence_may_begin-may_begin-requires : goal.sequence_may_begin-may_begin-requires
sequence_may_begin-may_begin-requires t c = (
  omega (arith, weight_in_concat c.args.xs.now c.loop-x.x-index c.x-item.result c.loop-x-test.true, ap weight c.x-item.is),
  tt,
)

pub any_may_begin-may_begin-requires : goal.any_may_begin-may_begin-requires
any_may_begin-may_begin-requires t c = (
  omega (arith, weight_in_concat c.args.xs.now c.loop-x.x-index c.x-item.result c.loop-x-test.true, ap weight c.x-item.is),
  tt,
)

pub may_begin-sequence_may_begin-requires : goal.may_begin-sequence_may_begin-requires
may_begin-sequence_may_begin-requires t c =
    let is = ap concat c.deref-in-Concat.ensures.value ∙ sym (ap node c.in-Concat.is) ∙ c.kind.ensures.is in
    (omega (arith, ap weight is), tt)

pub may_begin-any_may_begin-requires : goal.may_begin-any_may_begin-requires
may_begin-any_may_begin-requires t c =
    let is = ap alternation c.deref-in-Alternation.ensures.value ∙ sym (ap node c.in-Alternation.is) ∙ c.kind.ensures.is in
    (omega (arith, weight_of_either c.deref-in-Alternation.result.now, ap weight is), tt)
