use Rattle.std.proofs.Common.{◌<◌, arith}
use Rattle.streams.proofs.LineCallLemmas.{fed_by_bytes, fed_by_end}
use Rattle.streams.proofs.stream.Stream.feed_line.Goals as goal

pub returns-then-n-eq0-clause-fed : goal.returns-then-n-eq0-clause-fed
returns-then-n-eq0-clause-fed c =
    fed_by_end c.args.dfa.now c.args.terminator c.args.self.now c.end_line.new.self c.args.rows.now c.end_line.new.rows c.end_line.result.0
    c.requires.is_open c.args.bytes.now c.end_line.result.1 c.requires.some
    (c.part_length-n.ensures.ends (omega (arith, c.if-n-eq0.true)) c.requires.some) c.end_line.ensures.ended

pub returns-clause-fed : goal.returns-clause-fed
returns-clause-fed c =
    fed_by_bytes c.args.dfa.now c.args.terminator c.args.self.now c.feed.new.self c.args.bytes.now c.part_length-n.result c.args.rows.now
    c.feed.new.rows c.feed.result.0 c.requires.is_open c.requires.room c.part_length-n.ensures.within
    (let some : 0 < c.part_length-n.result = omega (arith, c.if-n-eq0.false) in some)
    c.part_length-n.ensures.free c.feed.result.1 c.feed.ensures.fed
