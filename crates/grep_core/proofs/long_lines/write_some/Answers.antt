use Rattle.grep_core.proofs.LongLineLemmas.{sends_all, sends_none}
use Rattle.grep_core.proofs.long_lines.write_some.Goals as goal

pub returns-then-len-lt-FULL-clause-sends : goal.returns-then-len-lt-FULL-clause-sends
returns-then-len-lt-FULL-clause-sends g c = sends_none (g.W.Write.contents c.args.writer.now) c.args.out.now.items

pub returns-clause-sends : goal.returns-clause-sends
returns-clause-sends g c =
    sends_all (g.W.Write.contents c.args.writer.now) (g.W.Write.contents c.write_out.new.writer) c.args.out.now.items c.deref.result.now
    c.clear.new.self.items c.deref.ensures.value c.clear.ensures.items c.in-Ok.ensures.ok
