use Rattle.std.proofs.Common.{◌≡◌, ◌∷◌, [], ◌++◌, List, length, sym, ap, ◌∙◌, append_assoc, arith}
use Rattle.std.specs.Vec.Iter.{into_iter_items}
use Rattle.hir_core.specs.Tree.{Tree}
use Rattle.line_search.specs.Joined.{parts_of}
use Rattle.line_search.proofs.JoinedLemmas.{one_more_part}
use Rattle.line_search.proofs.joining.parts_of.Goals as goal

pub loop-tree-preserved : goal.loop-tree-preserved
loop-tree-preserved c =
    let at = c.loop-tree in
    let x : Tree = c.in-Some.tree in
    let steps : into_iter_items at.tree-iterator ≡ x ∷ into_iter_items c.next.new.self = c.in-Some.ensures.steps.0 in (
      append_assoc at.yielded (x ∷ []) (into_iter_items c.next.new.self) ∙ ap (λ (t : List Tree). at.yielded ++ t) (sym steps)
          ∙ at.invariant.0,
      c.in_ok-add.ensures ∙ ap (λ (t : List Tree). t ++ parts_of x) at.invariant.1 ∙ sym (one_more_part at.yielded x),
      let was = at.invariant.2 in
          let gone = c.in-Some.ensures.steps.1 in
          let short = ap length steps in
          omega arith,
    )
