use Rattle.std.proofs.Common.{arith, string_bytes, ◌++◌, map}
use Rattle.hirhead.specs.Lines.{scalar_item, after_word}
use Rattle.hirhead.proofs.TellLemmas.{next_item, more_scalars, all_scalars}
use Rattle.hirhead.proofs.lines.push_scalar_items.Goals as goal

pub loop-range-preserved : goal.loop-range-preserved
loop-range-preserved c = (
  next_item scalar_item c.args.ranges.now c.loop-range.range-index (0, 0) (string_bytes c.loop-range.text)
      (string_bytes c.push_scalar_item.new.text)
      (string_bytes c.args.text.now ++ after_word (map scalar_item c.args.ranges.now))
      c.loop-range-test.true c.in_ok-push_scalar_item.ensures.item
      c.loop-range.invariant.0,
  more_scalars c.args.ranges.now c.loop-range.range-index
      (0, 0) c.loop-range-test.true c.loop-range.invariant.1 c.in_ok-push_scalar_item.ensures.scalars,
)

pub returns-clause-scalars : goal.returns-clause-scalars
returns-clause-scalars c =
    all_scalars c.args.ranges.now c.loop-range.range-index (omega (arith, c.loop-range-test.false)) c.loop-range.invariant.1
