use Rattle.std.proofs.Common.{◌≡◌, ◌+◌, ◌*◌, ◌≤◌, List, [], All, IsTrue, arith, sym, subst}
use Rattle.hir_core.specs.Facts.{is_utf8_tree, height}
use Rattle.hir_core.specs.Tree.{Tree}
use Rattle.pattern_search.specs.Texts.{AllMean}
use Rattle.pattern_search.proofs.TextLemmas.{one_more_means, one_more_holds, all_mean, first_fault}
use Rattle.pattern_search.proofs.parsing.parse_all.Goals as goal

none_yet : (P : Tree → Type 0) (xs : List Tree) → xs ≡ [] → All P xs
none_yet P xs is = subst (All P) (sym is) (λ k d below. absurd (omega (arith, below)))

pub loop-number-init : goal.loop-number-init
loop-number-init c = (
  subst (AllMean c.args.config.now []) (sym c.new-trees.ensures.items) tt,
  λ on. none_yet (λ x. IsTrue (is_utf8_tree x)) c.new-trees.result.items c.new-trees.ensures.items,
  none_yet (λ x. height x ≤ 5 * c.args.config.now.nest_limit + 5) c.new-trees.result.items c.new-trees.ensures.items,
)

pub returns-in-Err-clause-refused : goal.returns-in-Err-clause-refused
returns-in-Err-clause-refused c =
    first_fault c.args.config.now c.args.texts.now _ c.loop-number.number c.loop-number.trees.items c.in-Err.error c.loop-number-test.true
    c.loop-number.invariant.0
    c.in-Err.ensures.refused

pub loop-number-preserved : goal.loop-number-preserved
loop-number-preserved c =
    let pushed = c.in-Ok.ensures.pushed in (
      one_more_means c.args.config.now c.args.texts.now _ c.loop-number.number c.loop-number.trees.items c.push.new.trees.items pushed.0
          c.loop-number-test.true
          pushed.1 c.loop-number.invariant.0 pushed.2,
      λ on. one_more_holds (λ x. IsTrue (is_utf8_tree x)) c.loop-number.trees.items c.push.new.trees.items pushed.0 pushed.1
          (c.loop-number.invariant.1 on) (pushed.3 on),
      one_more_holds (λ x. height x ≤ 5 * c.args.config.now.nest_limit + 5) c.loop-number.trees.items
          c.push.new.trees.items pushed.0 pushed.1
          c.loop-number.invariant.2 pushed.4,
    )

pub returns-clause-means : goal.returns-clause-means
returns-clause-means c =
    all_mean c.args.config.now c.args.texts.now c.loop-number.number c.loop-number.trees.items
    (omega (arith, c.loop-number-test.false)) c.loop-number.invariant.0

pub returns-clause-utf8 : goal.returns-clause-utf8
returns-clause-utf8 c = c.loop-number.invariant.1

pub returns-clause-heights : goal.returns-clause-heights
returns-clause-heights c = c.loop-number.invariant.2
