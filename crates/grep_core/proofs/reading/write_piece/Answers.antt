use Rattle.std.proofs.Common.{◌++◌, arith}
use Rattle.grep_core.specs.Blocks.{finds_by}
use Rattle.grep_core.proofs.JoinLemmas.{taken_bound}
use Rattle.grep_core.proofs.PieceLemmas.{first_failed, first_written_to, piece_part, piece_written}
use Rattle.grep_core.proofs.WriteLemmas.{none_part}
use Rattle.grep_core.proofs.reading.write_piece.Goals as goal

pub returns-in-Err : goal.returns-in-Err
returns-in-Err g c = first_failed c.in-Err.ensures.keeps.same (λ by more.
    none_part c.args.task (finds_by c.args.task by) c.args.progress.now (c.args.read.now ++ more) (g.W.Write.contents c.args.writer.now))

pub returns-in-Ok-write_out : goal.returns-in-Ok-write_out
returns-in-Ok-write_out g c =
    let low = taken_bound c.args.read.now c.args.len c.in-Ok.done c.requires.within c.in-Ok.ensures.within in
    let high = c.requires.within in
    first_written_to c.in-Ok.ensures.keeps.same c.in-Ok.ensures.keeps.waits (omega (arith, low, high)) (λ by more.
    piece_written c.args.task (finds_by c.args.task by) c.args.progress.now c.report_block.new.progress c.args.read.now more
    c.new-out.result.items c.report_block.new.out.items c.deref.result.now c.args.len c.in-Ok.done
    (g.W.Write.contents c.args.writer.now) (g.W.Write.contents c.write_out.new.writer) c.requires.within c.in-Ok.ensures.within
    c.new-out.ensures.items c.deref.ensures.value (c.in-Ok.ensures.reports.goes_on by) (c.in-Ok.ensures.reports.counts by)
    c.in-Ok-write_out.ensures.ok)

pub returns : goal.returns
returns g c = first_failed c.in-Ok.ensures.keeps.same (λ by more.
    piece_part c.args.task (finds_by c.args.task by) c.args.progress.now c.report_block.new.progress c.args.read.now more
    c.new-out.result.items c.report_block.new.out.items c.deref.result.now c.args.len c.in-Ok.done
    (g.W.Write.contents c.args.writer.now) (g.W.Write.contents c.write_out.new.writer) c.requires.within c.in-Ok.ensures.within
    c.new-out.ensures.items c.deref.ensures.value (c.in-Ok.ensures.reports.goes_on by) c.in-Err-write_out.ensures.part)
