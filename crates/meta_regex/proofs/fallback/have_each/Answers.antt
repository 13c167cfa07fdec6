use Rattle.std.proofs.Common.{arith}
use Rattle.meta_regex.proofs.FallbackLemmas.{one_more_test}
use Rattle.meta_regex.proofs.fallback.have_each.Goals as goal

pub loop-number-preserved : goal.loop-number-preserved
loop-number-preserved c res of long =
    one_more_test c.args.utf8 c.args.haystack.now res c.args.may.now c.loop-number.number _ c.in_ok-has.has c.loop-number.tests.items
    c.push.new.tests.items (omega (arith, c.loop-number-test.true)) long c.in_ok-push.ensures
    (λ a listed. c.in_ok-has.ensures a (c.program.ensures res a of listed)) (c.loop-number.invariant res of long)
