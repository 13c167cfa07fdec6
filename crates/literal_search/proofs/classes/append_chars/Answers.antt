use Rattle.std.proofs.Common.{◌-◌, arith}
use Rattle.literal_search.proofs.ClassLemmas.{chars_more}
use Rattle.literal_search.proofs.ListLemmas.{keeps_then}
use Rattle.literal_search.proofs.classes.append_chars.Goals as goal

pub loop-next-preserved : goal.loop-next-preserved
loop-next-preserved c =
    let old = c.loop-next.literals in
    let new = c.append_scalar.new.literals in (
      omega (arith, c.loop-next.invariant.0),
      keeps_then c.args.literals.now old new c.loop-next.invariant.1 c.in_ok-append_scalar.ensures.keeps,
      chars_more old new (c.loop-next.next - 1) c.loop-next.next c.args.high (omega (arith, c.loop-next-test.true))
          c.loop-next.invariant.2 c.in_ok-append_scalar.ensures.keeps c.in_ok-append_scalar.ensures.added,
    )

pub returns-clause-added : goal.returns-clause-added
returns-clause-added c = λ k s low high spells. c.loop-next.invariant.2 k s (omega (arith, c.loop-next-test.false, low)) high spells
