use Rattle.std.proofs.Common.{◌≡◌, ◌+◌, ◌≤◌, length, ap, get_or, false, arith}
use Rattle.std.proofs.lemmas.List.{get_or_past}
use Rattle.search_core.proofs.ByteSetLemmas.{range_end_is}
use Rattle.search_core.proofs.byte_set.ByteSet.range_end.Goals as goal

pub returns-else-self-from : goal.returns-else-self-from
returns-else-self-from c =
    let f : get_or c.args.self.now (c.loop-end.end + 1) false ≡ false = cc in
    range_end_is c.args.self.now c.args.start c.loop-end.end c.loop-end.invariant.from c.loop-end.invariant.all f

pub returns-after-loop-end : goal.returns-after-loop-end
returns-after-loop-end c =
    let len = ap length c.self.view_is in
    let past : length c.args.self.now ≤ c.loop-end.end + 1 = omega (arith, c.self.told) in
    range_end_is c.args.self.now c.args.start c.loop-end.end c.loop-end.invariant.from c.loop-end.invariant.all
    (get_or_past c.args.self.now (c.loop-end.end + 1) false past)
