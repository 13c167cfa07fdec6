use Rattle.std.proofs.Common.{◌+◌, ◌<◌, ◌∙◌, ap, arith, length}
use Rattle.text_report.proofs.EventPieceLemmas.{end_cut, end_part, end_written, size_all}
use Rattle.text_report.proofs.event_reports.write_end.Goals as goal

pub returns-in-Err-sum-clause-fault : goal.returns-in-Err-sum-clause-fault
returns-in-Err-sum-clause-fault g c start all h =
    let t = c.args.task in
    end_cut t.what.now t.name.now c.args.time (length t.text.now) all c.args.progress.counts start (g.W.Write.contents c.args.writer.now)
    c.args.out.now.items c.args.progress.written h

pub returns-in-Err-push_end-clause-fault : goal.returns-in-Err-push_end-clause-fault
returns-in-Err-push_end-clause-fault g c start all h =
    let t = c.args.task in
    end_cut t.what.now t.name.now c.args.time (length t.text.now) all c.args.progress.counts start (g.W.Write.contents c.args.writer.now)
    c.args.out.now.items c.args.progress.written h

pub returns-in-Ok-write_all-clause-written : goal.returns-in-Ok-write_all-clause-written
returns-in-Ok-write_all-clause-written g c start all h =
    let t = c.args.task in
    let some : 0 < c.args.progress.counts.end = omega (arith, c.if-progress-eq0.false) in
    end_written t.what.now t.name.now c.args.time (length t.text.now) all c.args.progress.counts start (g.W.Write.contents c.args.writer.now)
    c.args.out.now.items c.args.progress.written h some c.stats_of-stats.result
    (c.stats_of-stats.ensures all (size_all start (g.W.Write.contents c.args.writer.now) all c.args.out.now.items c.args.progress.written
    c.args.progress.counts.end c.in-Ok-sum.bytes
    (c.in-Ok-sum.ensures ∙ ap (λ n. c.args.progress.written + n) (ap length c.as_slice.ensures.value)) h)) c.push_end.new.out.items c.deref.result.now c.in-Ok-push_end.ensures
    c.deref.ensures.value (g.W.Write.contents c.write_all.new.writer) c.in-Ok-write_all.ensures.ok

pub returns-in-Err-write_all-clause-fault : goal.returns-in-Err-write_all-clause-fault
returns-in-Err-write_all-clause-fault g c start all h =
    let t = c.args.task in
    let some : 0 < c.args.progress.counts.end = omega (arith, c.if-progress-eq0.false) in
    end_part t.what.now t.name.now c.args.time (length t.text.now) all c.args.progress.counts start (g.W.Write.contents c.args.writer.now)
    c.args.out.now.items c.args.progress.written h some c.stats_of-stats.result
    (c.stats_of-stats.ensures all (size_all start (g.W.Write.contents c.args.writer.now) all c.args.out.now.items c.args.progress.written
    c.args.progress.counts.end c.in-Ok-sum.bytes
    (c.in-Ok-sum.ensures ∙ ap (λ n. c.args.progress.written + n) (ap length c.as_slice.ensures.value)) h)) c.push_end.new.out.items c.deref.result.now c.in-Ok-push_end.ensures
    c.deref.ensures.value (g.W.Write.contents c.write_all.new.writer) c.in-Err-write_all.ensures.part
