use Rattle.std.proofs.Common.{◌-◌, ◌<◌, sym, ap, ◌∙◌, arith, length, subst}
use Rattle.hir_core.specs.Tree.{Tree, concat}
use Rattle.hir_core.specs.Node.{node}
use Rattle.hir_core.specs.Weight.{weight}
use Rattle.hir_core.proofs.ForCallers.{weight_in_concat}
use Rattle.meta_regex.specs.Splitting.{PutsParts}
use Rattle.meta_regex.proofs.SplittingLemmas.{puts_empty, puts_group, puts_more, puts_none}
use Rattle.meta_regex.proofs.splitting.+put_tree.Goals as goal

pub put_trees-put_tree-requires : goal.put_trees-put_tree-requires
put_trees-put_tree-requires t c =
    let within : c.loop-n.n - 1 < length c.args.xs.now = omega (arith, c.loop-n-test.true, c.loop-n.invariant.0) in
    (omega (arith, weight_in_concat c.args.xs.now (c.loop-n.n - 1) c.index-xs-n.result within, ap weight c.index-xs-n.is), tt)

pub put_tree-put_trees-requires : goal.put_tree-put_trees-requires
put_tree-put_trees-requires t c =
    let is = ap concat c.deref-in-Concat.ensures.value ∙ sym (ap node c.in-Concat.is) ∙ c.kind.ensures.is in
    (omega (arith, ap weight is), tt)

pub put_tree-returns-in-Empty : goal.put_tree-returns-in-Empty
put_tree-returns-in-Empty t c on =
    subst (λ (x : Tree). PutsParts x c.args.parts.now.items c.args.parts.now.items) (sym (ap node c.in-Empty.is) ∙ c.kind.ensures.is)
    (puts_empty c.args.parts.now.items)

pub put_tree-returns-in-Capture : goal.put_tree-returns-in-Capture
put_tree-returns-in-Capture t c on =
    subst (λ (x : Tree). PutsParts x c.args.parts.now.items c.put_tree.new.parts.items) (sym (ap node c.in-Capture.is) ∙ c.kind.ensures.is)
    (puts_group _ _ c.in-Capture.sub.value c.args.parts.now.items c.put_tree.new.parts.items
    (subst (λ (x : Tree). PutsParts x c.args.parts.now.items c.put_tree.new.parts.items) c.deref-in-Capture.ensures (c.put_tree.ensures on)))

pub put_trees-loop-n-init : goal.put_trees-loop-n-init
put_trees-loop-n-init t c = (omega arith, puts_none c.args.xs.now c.args.parts.now.items)

pub put_trees-loop-n-preserved : goal.put_trees-loop-n-preserved
put_trees-loop-n-preserved t c = (
  omega (arith, c.loop-n.invariant.0),
  puts_more c.args.xs.now c.index-xs-n.result (c.loop-n.n - 1) c.loop-n.n c.args.parts.now.items c.loop-n.parts.items
      c.put_tree.new.parts.items (omega (arith, c.loop-n-test.true)) (omega (arith, c.loop-n-test.true, c.loop-n.invariant.0)) c.index-xs-n.is
      c.loop-n.invariant.1 (c.put_tree.ensures c.if-not-put_tree.false),
)
