use Rattle.std.proofs.Common.{◌-◌, ◌<◌, sym, ap, ◌∙◌, arith, length, drop}
use Rattle.hir_core.specs.Tree.{concat, alternation}
use Rattle.hir_core.specs.Node.{node}
use Rattle.hir_core.specs.Weight.{weight}
use Rattle.hir_core.proofs.ForCallers.{weight_in_concat, weight_of_either}
use Rattle.literal_search.proofs.RequiredLemmas.{concat_more, alternation_more}
use Rattle.literal_search.proofs.required.+literals_of.Goals as goal

pub of_concat-literals_of-requires : goal.of_concat-literals_of-requires
of_concat-literals_of-requires t c =
    let within : c.loop-n.n - 1 < length c.args.xs.now = omega (arith, c.loop-n-test.true, c.loop-n.invariant.0) in
    (omega (arith, weight_in_concat c.args.xs.now (c.loop-n.n - 1) c.index-xs-n.result within, ap weight c.index-xs-n.is), tt)

pub of_alternation-literals_of-requires : goal.of_alternation-literals_of-requires
of_alternation-literals_of-requires t c =
    let within : c.loop-n.n - 1 < length c.args.xs.now = omega (arith, c.loop-n-test.true, c.loop-n.invariant.0) in
    (omega (arith, weight_in_concat c.args.xs.now (c.loop-n.n - 1) c.index-xs-n.result within, ap weight c.index-xs-n.is), tt)

pub literals_of-of_alternation-requires : goal.literals_of-of_alternation-requires
literals_of-of_alternation-requires t c =
    let is = ap alternation c.deref-in-Alternation.ensures.value ∙ sym (ap node c.in-Alternation.is) ∙ c.kind.ensures.is in
    (omega (arith, weight_of_either c.deref-in-Alternation.result.now, ap weight is), tt)

pub of_concat-loop-n-preserved : goal.of_concat-loop-n-preserved
of_concat-loop-n-preserved t c = (
  omega (arith, c.loop-n.invariant.0),
  concat_more c.in_ok-all-2.all c.args.xs.now c.index-xs-n.result (c.loop-n.n - 1) c.loop-n.n (omega (arith, c.loop-n-test.true))
      (omega (arith, c.loop-n-test.true, c.loop-n.invariant.0)) c.index-xs-n.is
      (c.in_ok-all-2.ensures c.index-xs-n.result (concat (drop c.loop-n.n c.args.xs.now)) c.in_ok-part.ensures c.loop-n.invariant.1),
)

pub of_alternation-loop-n-preserved : goal.of_alternation-loop-n-preserved
of_alternation-loop-n-preserved t c = (
  omega (arith, c.loop-n.invariant.0),
  alternation_more c.in_ok-all-2.all c.args.xs.now c.index-xs-n.result (c.loop-n.n - 1) c.loop-n.n (omega (arith, c.loop-n-test.true))
      (omega (arith, c.loop-n-test.true, c.loop-n.invariant.0)) c.index-xs-n.is
      (c.in_ok-all-2.ensures c.index-xs-n.result (alternation (drop c.loop-n.n c.args.xs.now)) c.in_ok-part.ensures c.loop-n.invariant.1),
)
