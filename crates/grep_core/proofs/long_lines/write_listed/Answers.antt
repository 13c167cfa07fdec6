use Rattle.grep_core.proofs.LongLineLemmas.{if_err, line_failed, listed_part, listed_written, none_begun, on_ok}
use Rattle.grep_core.proofs.long_lines.write_listed.Goals as goal

pub returns-in-Err : goal.returns-in-Err
returns-in-Err g c = line_failed c.in-Err.ensures.same (λ by lines. none_begun (g.W.Write.contents c.args.writer.now) _)

pub returns : goal.returns
returns g c = record {
  same = c.in-Ok.ensures.same;
  waits = on_ok c.write_out.result (λ written. c.in-Ok.ensures.waits) c.write_out.ensures.ok;
  writes = on_ok c.write_out.result (λ written by lines. record {
    sends = listed_written c.new-out.result.items c.report_one.new.out.items _ _ c.deref.result.now
        (g.W.Write.contents c.args.writer.now) (g.W.Write.contents c.write_out.new.writer) c.new-out.ensures.items
        (c.in-Ok.ensures.goes_on by lines) c.deref.ensures.value written;
    counted = c.in-Ok.ensures.counts by lines;
  }) c.write_out.ensures.ok;
  fault = if_err c.write_out.result (λ part by lines.
      listed_part c.new-out.result.items c.report_one.new.out.items _ _ c.deref.result.now
      (g.W.Write.contents c.args.writer.now) (g.W.Write.contents c.write_out.new.writer) c.new-out.ensures.items
      (c.in-Ok.ensures.goes_on by lines) c.deref.ensures.value part) c.write_out.ensures.part;
}
