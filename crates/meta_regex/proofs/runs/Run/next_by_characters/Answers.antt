use Rattle.std.proofs.Common.{arith}
use Rattle.meta_regex.proofs.CharLemmas.{chars_of_run, finds_rounds, passes_offset}
use Rattle.meta_regex.proofs.RunLemmas.{none_left, stops_before}
use Rattle.meta_regex.proofs.runs.Run.next_by_characters.Goals as goal

pub returns-then-start-haystack : goal.returns-then-start-haystack
returns-then-start-haystack c = λ x it.
    none_left c.args.self.now x it c.args.haystack.now c.see_bytes.ensures c.args.from c.next_start-start.result
    (omega (arith, c.if-start-haystack.true))
    (stops_before c.args.self.now c.args.haystack.now c.see_bytes.ensures c.args.from c.loop.at c.next_start-start.result
    c.next_start-start.ensures.high c.next_start-start.ensures.low c.next_start-start.ensures.passed x it c.loop.invariant.0
    (c.loop.invariant.2 x it)).2

pub returns-in_default-rounds_from : goal.returns-in_default-rounds_from
returns-in_default-rounds_from c = λ x it.
    stops_before c.args.self.now c.args.haystack.now c.see_bytes.ensures c.args.from c.loop.at c.next_start-start.result
    c.next_start-start.ensures.high c.next_start-start.ensures.low c.next_start-start.ensures.passed x it c.loop.invariant.0
    (c.loop.invariant.2 x it)

pub returns-then-self-rounds : goal.returns-then-self-rounds
returns-then-self-rounds c = λ x it.
    finds_rounds c.args.self.now x it c.args.haystack.now c.see_bytes.ensures c.args.from c.next_start-start.result c.in-Some-rounds_from.rounds.count
    c.in-Some-rounds_from.rounds.end
    (stops_before c.args.self.now c.args.haystack.now c.see_bytes.ensures c.args.from c.loop.at c.next_start-start.result
    c.next_start-start.ensures.high c.next_start-start.ensures.low c.next_start-start.ensures.passed x it c.loop.invariant.0
    (c.loop.invariant.2 x it))
    (c.in-Some-rounds_from.ensures it.body
    (chars_of_run c.args.self.now x it c.in-Some.table c.in-Some.is c.deref.result.now c.deref.ensures.value))
    c.if-self-rounds.true

pub returns-then-rounds-gt0 : goal.returns-then-rounds-gt0
returns-then-rounds-gt0 c = λ x it.
    stops_before c.args.self.now c.args.haystack.now c.see_bytes.ensures c.args.from c.loop.at c.next_start-start.result
    c.next_start-start.ensures.high c.next_start-start.ensures.low c.next_start-start.ensures.passed x it c.loop.invariant.0
    (c.loop.invariant.2 x it)

pub loop-preserved : goal.loop-preserved
loop-preserved c = (
  omega (arith, c.loop.invariant.0, c.next_start-start.ensures.low),
  omega (arith, c.next_start-start.ensures.high, c.if-start-haystack.false),
  λ x it.
      passes_offset c.args.self.now x it c.args.haystack.now c.see_bytes.ensures c.args.from c.next_start-start.result
      c.in-Some-rounds_from.rounds.count c.in-Some-rounds_from.rounds.end
      (stops_before c.args.self.now c.args.haystack.now c.see_bytes.ensures c.args.from c.loop.at c.next_start-start.result
      c.next_start-start.ensures.high c.next_start-start.ensures.low c.next_start-start.ensures.passed x it c.loop.invariant.0
      (c.loop.invariant.2 x it)).2
      (c.in-Some-rounds_from.ensures it.body
      (chars_of_run c.args.self.now x it c.in-Some.table c.in-Some.is c.deref.result.now c.deref.ensures.value))
      (omega (arith, c.if-rounds-gt0.false)),
)
