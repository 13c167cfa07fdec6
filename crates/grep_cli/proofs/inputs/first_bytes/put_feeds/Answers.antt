use Rattle.std.proofs.Common.{arith, get_or}
use Rattle.std.proofs.lemmas.List.{get_or_default}
use Rattle.std.proofs.lemmas.List.Edits.{map_over_more}
use Rattle.grep_cli.specs.Inputs.{zero_as_feed}
use Rattle.grep_cli.proofs.inputs.first_bytes.put_feeds.Goals as goal

pub loop-at-preserved : goal.loop-at-preserved
loop-at-preserved c =
    let old = get_or c.loop-at.bytes c.loop-at.at 0 in
    rw c.zero_as_feed-byte.ensures (map_over_more zero_as_feed c.args.bytes.now c.loop-at.bytes c.loop-at.at old c.loop-at-test.true c.loop-at.invariant
    (get_or_default c.loop-at.bytes c.loop-at.at 0 old (omega arith)))
