use Rattle.text_report.proofs.NewReportLemmas.{rest_cut, rest_part, rest_written}
use Rattle.text_report.proofs.replacing.write_rest.Goals as goal

pub returns-in-Err-clause-fault : goal.returns-in-Err-clause-fault
returns-in-Err-clause-fault g c =
    rest_cut c.args.task c.args.telling.now c.args.out.now (g.W.Write.contents c.args.writer.now) (g.W.Write.contents c.write_out.new.writer)
    c.in-Err.ensures.part

pub returns-in-Ok-write_end-clause-written : goal.returns-in-Ok-write_end-clause-written
returns-in-Ok-write_end-clause-written g c =
    rest_written c.args.task c.args.telling.now c.args.out.now (g.W.Write.contents c.args.writer.now) (g.W.Write.contents c.write_out.new.writer)
    (g.W.Write.contents c.write_end.new.writer) c.in-Ok.ensures.ok c.in-Ok-write_end.ensures.written

pub returns-in-Err-write_end-clause-fault : goal.returns-in-Err-write_end-clause-fault
returns-in-Err-write_end-clause-fault g c =
    rest_part c.args.task c.args.telling.now c.args.out.now (g.W.Write.contents c.args.writer.now) (g.W.Write.contents c.write_out.new.writer)
    (g.W.Write.contents c.write_end.new.writer) c.in-Ok.ensures.ok c.in-Err-write_end.ensures.fault
