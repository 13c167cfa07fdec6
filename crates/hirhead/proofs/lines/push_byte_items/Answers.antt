use Rattle.std.proofs.Common.{arith, string_bytes, ◌++◌, map}
use Rattle.hirhead.specs.Lines.{byte_item, after_word}
use Rattle.hirhead.proofs.TellLemmas.{next_item, more_small, all_small}
use Rattle.hirhead.proofs.lines.push_byte_items.Goals as goal

pub loop-range-preserved : goal.loop-range-preserved
loop-range-preserved c = (
  next_item byte_item c.args.ranges.now c.loop-range.range-index (0, 0) (string_bytes c.loop-range.text)
      (string_bytes c.push_byte_item.new.text)
      (string_bytes c.args.text.now ++ after_word (map byte_item c.args.ranges.now))
      c.loop-range-test.true c.in_ok-push_byte_item.ensures.item
      c.loop-range.invariant.0,
  more_small c.args.ranges.now c.loop-range.range-index
      (0, 0) c.loop-range-test.true c.loop-range.invariant.1 c.in_ok-push_byte_item.ensures.small,
)

pub returns-clause-small : goal.returns-clause-small
returns-clause-small c =
    all_small c.args.ranges.now c.loop-range.range-index (omega (arith, c.loop-range-test.false)) c.loop-range.invariant.1
