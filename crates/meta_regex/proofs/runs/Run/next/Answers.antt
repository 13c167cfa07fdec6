use Rattle.std.proofs.Common.{◌+◌, arith}
use Rattle.meta_regex.proofs.CharLemmas.{next_from_later}
use Rattle.meta_regex.proofs.RunLemmas.{finds_run, none_left, skips_run, stops_before}
use Rattle.meta_regex.proofs.runs.Run.next.Goals as goal

pub returns-then-stands_at : goal.returns-then-stands_at
returns-then-stands_at c = λ x it.
    let stop = stops_before c.args.self.now c.args.haystack.now c.see_bytes.ensures c.args.from c.loop-at.at c.next_start-start.result
    c.next_start-start.ensures.high c.next_start-start.ensures.low c.next_start-start.ensures.passed x it c.loop-at.invariant.0
    (c.loop-at.invariant.2 x it) in
    next_from_later x c.args.haystack.now c.args.from c.next_start-start.result c.next_by_characters.result stop.0 stop.2
    (c.next_by_characters.ensures x it)

pub returns-then-self-end : goal.returns-then-self-end
returns-then-self-end c = λ x it.
    finds_run c.args.self.now c.args.haystack.now c.see_bytes.ensures c.args.from c.loop-at.at c.next_start-start.result
    c.next_start-start.ensures.high c.next_start-start.ensures.low c.next_start-start.ensures.passed x it c.loop-at.invariant.0
    (c.loop-at.invariant.2 x it) c.run_end-end.result c.run_end-end.ensures.high (c.run_end-end.ensures.passed it.body it.rounds)
    (c.stands_at.ensures c.if-stands_at.false) (omega (arith, c.if-self-end.true, c.run_end-end.ensures.low))

pub loop-at-preserved : goal.loop-at-preserved
loop-at-preserved c = (
  omega (arith, c.loop-at.invariant.0, c.next_start-start.ensures.low, c.run_end-end.ensures.low),
  omega (arith, c.run_end-end.ensures.high, c.if-end-haystack.false),
  λ x it.
      skips_run c.args.self.now c.args.haystack.now c.see_bytes.ensures c.args.from c.loop-at.at c.next_start-start.result
      c.next_start-start.ensures.high c.next_start-start.ensures.low c.next_start-start.ensures.passed x it c.loop-at.invariant.0
      (c.loop-at.invariant.2 x it) c.run_end-end.result c.run_end-end.ensures.high (c.run_end-end.ensures.passed it.body it.rounds)
      (c.stands_at.ensures c.if-stands_at.false) c.run_end-end.ensures.low
      (omega (arith, c.if-self-end.false, c.run_end-end.ensures.low)) (c.run_end-end.result + 1) (omega arith),
)

pub returns-then-end-haystack : goal.returns-then-end-haystack
returns-then-end-haystack c = λ x it.
    none_left c.args.self.now x it c.args.haystack.now c.see_bytes.ensures c.args.from c.run_end-end.result
    (omega (arith, c.if-end-haystack.true))
    (skips_run c.args.self.now c.args.haystack.now c.see_bytes.ensures c.args.from c.loop-at.at c.next_start-start.result
    c.next_start-start.ensures.high c.next_start-start.ensures.low c.next_start-start.ensures.passed x it c.loop-at.invariant.0
    (c.loop-at.invariant.2 x it) c.run_end-end.result c.run_end-end.ensures.high (c.run_end-end.ensures.passed it.body it.rounds)
    (c.stands_at.ensures c.if-stands_at.false) c.run_end-end.ensures.low
    (omega (arith, c.if-self-end.false, c.run_end-end.ensures.low)) c.run_end-end.result (omega arith))

pub returns : goal.returns
returns c = λ x it.
    none_left c.args.self.now x it c.args.haystack.now c.see_bytes.ensures c.args.from c.loop-at.at (omega (arith, c.loop-at-test.false))
    (c.loop-at.invariant.2 x it)
