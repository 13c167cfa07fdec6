use Rattle.std.proofs.Common.{[], arith, sym, subst}
use Rattle.pattern_search.specs.Texts.{AllMean}
use Rattle.line_search.specs.Meant.{line_config}
use Rattle.line_search.proofs.PlainLemmas.{one_more_means, all_mean, first_fault}
use Rattle.line_search.proofs.plain_patterns.parse_each.Goals as goal

pub loop-number-init : goal.loop-number-init
loop-number-init c = subst (AllMean (line_config c.args.how.now) []) (sym c.new-trees.ensures.items) tt

pub returns-in-Err-clause-refused : goal.returns-in-Err-clause-refused
returns-in-Err-clause-refused c =
    first_fault (line_config c.args.how.now) c.args.texts.now _ c.loop-number.number c.loop-number.trees.items c.in-Err.error
    c.loop-number-test.true c.loop-number.invariant c.in-Err.ensures.refused

pub loop-number-preserved : goal.loop-number-preserved
loop-number-preserved c =
    let pushed = c.in-Ok.ensures.pushed in
    one_more_means (line_config c.args.how.now) c.args.texts.now _ c.loop-number.number c.loop-number.trees.items
    c.push_tree.new.trees.items pushed.0 c.loop-number-test.true pushed.1 c.loop-number.invariant pushed.2

pub returns-clause-means : goal.returns-clause-means
returns-clause-means c =
    all_mean (line_config c.args.how.now) c.args.texts.now c.loop-number.number c.loop-number.trees.items
    (omega (arith, c.loop-number-test.false)) c.loop-number.invariant
