use Rattle.std.proofs.Common.{◌++◌}
use Rattle.grep_core.specs.Blocks.{finds_by, reported_bytes}
use Rattle.line_search.specs.Lines.{split_lines}
use Rattle.grep_core.proofs.LongLineLemmas.{all_last, last_part}
use Rattle.grep_core.proofs.WriteLemmas.{appends_kept, whole_part}
use Rattle.grep_core.proofs.reading.finish.Goals as goal

pub returns-in-Err-write_end-clause-fault : goal.returns-in-Err-write_end-clause-fault
returns-in-Err-write_end-clause-fault g c by more none =
    last_part c.args.task (finds_by c.args.task by) c.args.progress.now c.write_open_line.new.progress (c.args.read.now ++ more)
    (g.W.Write.contents c.args.writer.now) (g.W.Write.contents c.write_open_line.new.writer) (g.W.Write.contents c.write_end.new.writer)
    (c.in-Ok.ensures.writes by more none) (c.in-Err-write_end.ensures.fault (finds_by c.args.task by))

pub returns-in-Ok-flush-clause-written : goal.returns-in-Ok-flush-clause-written
returns-in-Ok-flush-clause-written g c by more none =
    appends_kept (g.W.Write.contents c.args.writer.now) (g.W.Write.contents c.write_end.new.writer) (g.W.Write.contents c.flush.new.writer)
    (reported_bytes c.args.task (finds_by c.args.task by) c.args.progress.now (split_lines (c.args.read.now ++ more)))
    (all_last c.args.task (finds_by c.args.task by) c.args.progress.now c.write_open_line.new.progress (c.args.read.now ++ more)
    (g.W.Write.contents c.args.writer.now) (g.W.Write.contents c.write_open_line.new.writer) (g.W.Write.contents c.write_end.new.writer)
    (c.in-Ok.ensures.writes by more none) (c.in-Ok-write_end.ensures.written (finds_by c.args.task by))) c.flush.ensures

pub returns-in-Ok-flush-clause-counts : goal.returns-in-Ok-flush-clause-counts
returns-in-Ok-flush-clause-counts g c by more none = (c.in-Ok.ensures.writes by more none).counted

pub returns-in-Err-flush-clause-fault : goal.returns-in-Err-flush-clause-fault
returns-in-Err-flush-clause-fault g c by more none =
    whole_part c.args.task (finds_by c.args.task by) c.args.progress.now (c.args.read.now ++ more)
    (g.W.Write.contents c.args.writer.now) (g.W.Write.contents c.write_end.new.writer) (g.W.Write.contents c.flush.new.writer)
    (all_last c.args.task (finds_by c.args.task by) c.args.progress.now c.write_open_line.new.progress (c.args.read.now ++ more)
    (g.W.Write.contents c.args.writer.now) (g.W.Write.contents c.write_open_line.new.writer) (g.W.Write.contents c.write_end.new.writer)
    (c.in-Ok.ensures.writes by more none) (c.in-Ok-write_end.ensures.written (finds_by c.args.task by))) c.flush.ensures
