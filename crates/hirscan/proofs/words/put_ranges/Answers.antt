use Rattle.std.proofs.Common.{◌-◌, get_or, sym, ◌∙◌, ap}
use Rattle.hirscan.specs.Words.{with_range}
use Rattle.hirscan.proofs.ScalarRangeLemmas.{ranges_of_none, ranges_with_item}
use Rattle.hirscan.proofs.words.put_ranges.Goals as goal

pub loop-i-init : goal.loop-i-init
loop-i-init c = ranges_of_none c.args.items.now c.new-ranges.result.items c.new-ranges.ensures.items

pub loop-i-preserved : goal.loop-i-preserved
loop-i-preserved c =
    c.in_ok-put_range.ensures ∙ (ap (with_range (get_or c.args.items.now (c.loop-i.i - 1) (0, 0))) c.loop-i.invariant
    ∙ sym (ranges_with_item c.args.items.now c.loop-i.i c.loop-i-test.true c.loop-i.auto.i))
