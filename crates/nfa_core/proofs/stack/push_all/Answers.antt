use Rattle.std.proofs.Common.{ap, ◌∙◌, reverse}
use Rattle.search_types.proofs.ForCallers.{failed}
use Rattle.nfa_core.proofs.AddedLemmas.{on_err, none_dropped, one_stacked, fewer_stacked, all_stacked}
use Rattle.nfa_core.proofs.stack.push_all.Goals as goal

pub loop-i-init : goal.loop-i-init
loop-i-init c = none_dropped c.args.ids.now (reverse c.args.stack.now.items)

pub loop-i-preserved : goal.loop-i-preserved
loop-i-preserved c =
    one_stacked c.args.ids.now (reverse c.args.stack.now.items) (reverse c.loop-i.stack.items) (reverse c.push.new.stack.items) c.loop-i.i
    c.index-ids-i.result c.loop-i-test.true c.loop-i.auto.i c.index-ids-i.is c.in_ok-push.ensures.ok c.loop-i.invariant

pub returns-in_err-push-clause-ok : goal.returns-in_err-push-clause-ok
returns-in_err-push-clause-ok c = failed _ _ c.from_residual.result c.from_residual.ensures.1

pub returns-in_err-push-clause-err : goal.returns-in_err-push-clause-err
returns-in_err-push-clause-err c =
    on_err c.from_residual.result (c.loop-i.i, c.loop-i-test.true, ap reverse c.in_err-push.ensures.err ∙ c.loop-i.invariant)

pub returns-in_err-push-clause-fewer : goal.returns-in_err-push-clause-fewer
returns-in_err-push-clause-fewer c =
    on_err c.from_residual.result
    (fewer_stacked c.args.ids.now (reverse c.args.stack.now.items) (reverse c.push.new.stack.items) c.loop-i.i c.loop-i-test.true
    c.loop-i.auto.i (ap reverse c.in_err-push.ensures.err ∙ c.loop-i.invariant))

pub returns-clause-ok : goal.returns-clause-ok
returns-clause-ok c =
    all_stacked c.args.ids.now (reverse c.args.stack.now.items) (reverse c.loop-i.stack.items) c.loop-i.i c.loop-i-test.false
    c.loop-i.invariant
