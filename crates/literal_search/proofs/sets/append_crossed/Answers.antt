use Rattle.std.proofs.Common.{◌-◌, ◌++◌, arith, ap, ◌∙◌, subst}
use Rattle.literal_search.specs.Literals.{Listed}
use Rattle.literal_search.proofs.ListLemmas.{keeps_pushed, keeps_then, front_more, pushed_listed}
use Rattle.literal_search.proofs.sets.append_crossed.Goals as goal

pub loop-n-preserved : goal.loop-n-preserved
loop-n-preserved c =
    let old = c.loop-n.literals in
    let new = c.push.new.self in
    let front = c.args.front.now in
    let bytes = c.in_ok-concatenated.field-0.items in
    let kept = keeps_pushed old new bytes c.in_ok-push.ensures in (
      omega (arith, c.loop-n.invariant.0),
      keeps_then c.args.literals.now old new c.loop-n.invariant.1 kept,
      front_more front c.args.second.now old new (c.loop-n.n - 1) c.loop-n.n (omega (arith, c.loop-n-test.true))
          (omega (arith, c.loop-n-test.true, c.loop-n.invariant.0)) c.loop-n.invariant.2 kept
          (subst (λ b. Listed new b) (c.in_ok-concatenated.ensures ∙ ap (λ b. front ++ b) c.get.ensures)
          (pushed_listed old new bytes c.in_ok-push.ensures)),
    )
