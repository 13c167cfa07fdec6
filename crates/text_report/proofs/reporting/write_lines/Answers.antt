use Rattle.text_report.proofs.ReportLemmas.{then_part, then_writes, writes_none, writes_part}
use Rattle.text_report.proofs.reporting.write_lines.Goals as goal

pub loop-parts-init : goal.loop-parts-init
loop-parts-init g c = record {
  waits = c.requires.waits;
  within = c.requires.within;
  writes = λ order before. writes_none c.args.task c.args.progress.now (g.W.Write.contents c.args.writer.now) before;
}

pub loop-parts-preserved : goal.loop-parts-preserved
loop-parts-preserved g c = record {
  waits = c.in-Ok-true.ensures.leaves.waits;
  within = c.in-Ok-true.ensures.leaves.within;
  writes = λ order before.
      let a = c.loop-parts.invariant.writes order before in
      then_writes c.args.task c.args.progress.now c.loop-parts.progress c.write_some.new.progress (g.W.Write.contents c.args.writer.now)
      (g.W.Write.contents c.loop-parts.writer) (g.W.Write.contents c.write_some.new.writer) a
      (c.in-Ok-true.ensures.writes order a.are_before);
}

pub returns-in-Ok-false-clause-writes : goal.returns-in-Ok-false-clause-writes
returns-in-Ok-false-clause-writes g c order before =
    let a = c.loop-parts.invariant.writes order before in
    then_writes c.args.task c.args.progress.now c.loop-parts.progress c.write_some.new.progress (g.W.Write.contents c.args.writer.now)
    (g.W.Write.contents c.loop-parts.writer) (g.W.Write.contents c.write_some.new.writer) a
    (c.in-Ok-false.ensures.writes order a.are_before)

pub returns-in-Err-clause-fault : goal.returns-in-Err-clause-fault
returns-in-Err-clause-fault g c order before =
    let a = c.loop-parts.invariant.writes order before in
    then_part c.args.task c.args.progress.now c.loop-parts.progress (g.W.Write.contents c.args.writer.now)
    (g.W.Write.contents c.loop-parts.writer) (g.W.Write.contents c.write_some.new.writer) a (c.in-Err.ensures.fault order a.are_before)

pub returns-clause-fault : goal.returns-clause-fault
returns-clause-fault g c order before =
    writes_part c.args.task c.args.progress.now c.loop-parts.progress (g.W.Write.contents c.args.writer.now)
    (g.W.Write.contents c.loop-parts.writer) (c.loop-parts.invariant.writes order before)
