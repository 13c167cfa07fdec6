use Rattle.std.proofs.Common.{◌++◌, []}
use Rattle.grep_core.specs.Blocks.{finds_by}
use Rattle.grep_core.proofs.BlockLemmas.{is_none, is_some}
use Rattle.grep_core.proofs.LongLineLemmas.{if_err, last_begun, last_written, none_last, on_ok, over_last}
use Rattle.grep_core.proofs.reading.write_open_line.Goals as goal

pub returns-then-not-ended-clause-writes : goal.returns-then-not-ended-clause-writes
returns-then-not-ended-clause-writes g c by more none =
    over_last c.args.task (finds_by c.args.task by) c.args.progress.now (c.args.read.now ++ more) (g.W.Write.contents c.args.writer.now)
    (c.requires.over c.if-not-ended.true)

pub returns-then-is_empty-clause-writes : goal.returns-then-is_empty-clause-writes
returns-then-is_empty-clause-writes g c by more none =
    none_last c.args.task (finds_by c.args.task by) c.args.progress.now c.args.read.now more (g.W.Write.contents c.args.writer.now)
    (is_none c.is_empty.result _ c.is_empty.ensures c.if-is_empty.true) (none c.if-not-ended.false)

pub returns-then-begins_long-clause-writes : goal.returns-then-begins_long-clause-writes
returns-then-begins_long-clause-writes g c = on_ok c.write_line.result (λ writes by more none.
    last_written c.args.task (finds_by c.args.task by) c.args.progress.now c.write_line.new.progress c.args.read.now more
    (g.W.Write.contents c.args.writer.now) (g.W.Write.contents c.write_line.new.writer) c.requires.open
    (c.begins_long.ensures c.if-begins_long.true) (none c.if-not-ended.false) (writes by [])) c.write_line.ensures.writes

pub returns-then-begins_long-clause-fault : goal.returns-then-begins_long-clause-fault
returns-then-begins_long-clause-fault g c = if_err c.write_line.result (λ part by more none.
    last_begun c.args.task (finds_by c.args.task by) c.args.progress.now c.args.read.now more (g.W.Write.contents c.args.writer.now)
    (g.W.Write.contents c.write_line.new.writer) c.requires.open (c.begins_long.ensures c.if-begins_long.true) (none c.if-not-ended.false)
    (part by [])) c.write_line.ensures.fault

pub returns-clause-writes : goal.returns-clause-writes
returns-clause-writes g c = on_ok c.write_listed.result (λ writes by more none.
    last_written c.args.task (finds_by c.args.task by) c.args.progress.now c.write_listed.new.progress c.args.read.now more
    (g.W.Write.contents c.args.writer.now) (g.W.Write.contents c.write_listed.new.writer) c.requires.open
    (is_some c.is_empty.result _ c.is_empty.ensures c.if-is_empty.false) (none c.if-not-ended.false) (writes by []))
    c.write_listed.ensures.writes

pub returns-clause-fault : goal.returns-clause-fault
returns-clause-fault g c = if_err c.write_listed.result (λ part by more none.
    last_begun c.args.task (finds_by c.args.task by) c.args.progress.now c.args.read.now more (g.W.Write.contents c.args.writer.now)
    (g.W.Write.contents c.write_listed.new.writer) c.requires.open (is_some c.is_empty.result _ c.is_empty.ensures c.if-is_empty.false)
    (none c.if-not-ended.false) (part by [])) c.write_listed.ensures.fault
