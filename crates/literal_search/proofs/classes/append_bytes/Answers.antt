use Rattle.std.proofs.Common.{◌-◌, arith}
use Rattle.literal_search.proofs.ClassLemmas.{bytes_more}
use Rattle.literal_search.proofs.ListLemmas.{keeps_pushed, keeps_then}
use Rattle.literal_search.proofs.classes.append_bytes.Goals as goal

pub loop-next-preserved : goal.loop-next-preserved
loop-next-preserved c =
    let old = c.loop-next.literals in
    let new = c.push.new.self in (
      omega (arith, c.loop-next.invariant.0),
      keeps_then c.args.literals.now old new c.loop-next.invariant.1 (keeps_pushed old new _ c.in_ok-push.ensures),
      bytes_more old new _ (c.loop-next.next - 1) c.loop-next.next c.args.high (omega (arith, c.loop-next-test.true))
          c.loop-next.invariant.2 c.in_ok-vec.ensures.items c.in_ok-push.ensures,
    )
