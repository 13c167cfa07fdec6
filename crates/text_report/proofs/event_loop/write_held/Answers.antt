use Rattle.std.proofs.Common.{◌+◌, ◌<◌, ◌∙◌, ap, arith, length}
use Rattle.text_report.proofs.EventPieceLemmas.{cut_none, cut_some, held_all}
use Rattle.text_report.proofs.event_loop.write_held.Goals as goal

pub returns-in-Err-clause-fault : goal.returns-in-Err-clause-fault
returns-in-Err-clause-fault g c start all h =
    cut_none start (g.W.Write.contents c.args.writer.now) all c.args.out.now.items c.args.written.now c.args.end h

pub returns-in-Err-write_out-clause-fault : goal.returns-in-Err-write_out-clause-fault
returns-in-Err-write_out-clause-fault g c start all h =
    let some : 0 < c.args.end = omega (arith, c.if-end-eq0.false) in
    cut_some (g.W.Write.contents c.args.writer.now) (g.W.Write.contents c.write_out.new.writer) all c.args.out.now.items c.deref.result.now start
    c.args.written.now c.args.end some c.deref.ensures.value c.in-Err-write_out.ensures.part h

pub returns-clause-held : goal.returns-clause-held
returns-clause-held g c start all h =
    let some : 0 < c.args.end = omega (arith, c.if-end-eq0.false) in
    held_all (g.W.Write.contents c.args.writer.now) (g.W.Write.contents c.write_out.new.writer) all c.args.out.now.items c.deref.result.now start
    c.args.written.now c.in-Ok.more c.args.end some c.deref.ensures.value
    (c.in-Ok.ensures ∙ ap (λ n. c.args.written.now + n) (ap length c.as_slice.ensures.value)) c.in-Ok-write_out.ensures.ok c.clear.new.self.items
    c.clear.ensures.items h
