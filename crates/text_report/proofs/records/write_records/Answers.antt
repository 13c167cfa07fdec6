use Rattle.std.proofs.Common.{◌∙◌}
use Rattle.grep_core.specs.Blocks.{finds_by}
use Rattle.grep_core.proofs.ForCallers.{moved_by}
use Rattle.text_report.specs.Records.{records_left}
use Rattle.text_report.proofs.RecordLemmas.{then_begun, then_sent}
use Rattle.text_report.proofs.records.write_records.Goals as goal

pub loop-at-preserved : goal.loop-at-preserved
loop-at-preserved g c = record {
  inside = c.in-Ok.ensures.within;
  same = c.in-Ok.ensures.keeps.same ∙ c.loop-at.invariant.same;
  waits = c.in-Ok.ensures.keeps.waits;
  writes = λ by.
      then_sent c.args.task (finds_by c.args.task by) c.args.progress.now c.loop-at.progress c.write_some.new.progress
      (records_left c.args.task c.args.text.now 0) (records_left c.args.task c.args.text.now c.loop-at.at)
      (records_left c.args.task c.args.text.now c.in-Ok.next) (g.W.Write.contents c.args.writer.now)
      (g.W.Write.contents c.loop-at.writer) (g.W.Write.contents c.write_some.new.writer)
      (c.loop-at.invariant.writes by) (c.in-Ok.ensures.writes (moved_by c.loop-at.invariant.same by));
}

pub returns-in-Err-clause-fault : goal.returns-in-Err-clause-fault
returns-in-Err-clause-fault g c by =
    then_begun c.args.task (finds_by c.args.task by) c.args.progress.now c.loop-at.progress
    (records_left c.args.task c.args.text.now 0) (records_left c.args.task c.args.text.now c.loop-at.at)
    (g.W.Write.contents c.args.writer.now) (g.W.Write.contents c.loop-at.writer) (g.W.Write.contents c.write_some.new.writer)
    (c.loop-at.invariant.writes by) (c.in-Err.ensures.fault (moved_by c.loop-at.invariant.same by))
