use Rattle.std.proofs.Common.{sym, []}
use Rattle.grep_core.specs.Blocks.{reported_bytes}
use Rattle.grep_core.proofs.LongLineLemmas.{if_err, on_ok}
use Rattle.grep_core.proofs.WriteLemmas.{shown_written, shown_part}
use Rattle.grep_core.proofs.reading.write_end.Goals as goal

pub returns-clause-written : goal.returns-clause-written
returns-clause-written g c =
    on_ok c.write_out.result (λ written f.
    shown_written c.new-out.result.items c.deref.result.now c.report_end.new.out.items (reported_bytes c.args.task f c.args.progress.now [])
    (g.W.Write.contents c.args.writer.now) (g.W.Write.contents c.write_out.new.writer) c.new-out.ensures.items c.deref.ensures.value
    (sym (c.in-Ok.ensures f)) written) c.write_out.ensures.ok

pub returns-clause-fault : goal.returns-clause-fault
returns-clause-fault g c =
    if_err c.write_out.result (λ part f.
    shown_part c.new-out.result.items c.deref.result.now c.report_end.new.out.items (reported_bytes c.args.task f c.args.progress.now [])
    (g.W.Write.contents c.args.writer.now) (g.W.Write.contents c.write_out.new.writer) c.new-out.ensures.items c.deref.ensures.value
    (sym (c.in-Ok.ensures f)) part) c.write_out.ensures.part
