use Rattle.std.proofs.Common.{◌++◌, refl}
use Rattle.text_report.proofs.EventPieceLemmas.{cut_none}
use Rattle.text_report.proofs.NewReportLemmas.{cut_new, more_held, more_printed, none_written}
use Rattle.text_report.proofs.replacing.write_groups.Goals as goal

pub loop-progress-init : goal.loop-progress-init
loop-progress-init g c = record {
  waits = c.requires.waits;
  within = c.requires.within;
  known = c.requires.known;
  begun = c.requires.begun;
  printed = λ order. none_written c.args.task c.args.progress.now (g.W.Write.contents c.args.writer.now) c.args.out.now.items
      c.requires.none_written c.requires.none_held;
}

pub loop-progress-preserved : goal.loop-progress-preserved
loop-progress-preserved g c =
    let t = c.args.task in
    let o = c.args.progress.now in
    let p = c.loop-progress.progress in
    let q = c.report_next.new.progress in
    let start = g.W.Write.contents c.args.writer.now in
    let now = g.W.Write.contents c.loop-progress.writer in
    let held = c.loop-progress.out.items in
    let more = c.report_next.new.out.items in
    record {
      waits = c.in-Ok.ensures.waits;
      within = c.in-Ok.ensures.on.1;
      known = c.in-Ok.ensures.known;
      begun = c.in-Ok.ensures.begun;
      printed = λ order.
          let pr = c.loop-progress.invariant.printed order in
          record {
            all = pr.are_held.done ++ more;
            are_held = c.in-Ok-write_held.ensures.held start (pr.are_held.done ++ more)
                (more_held t start now held o p pr more q c.in-Ok.ensures.written (c.in-Ok.ensures.goes_on order));
            printed = more_printed t start now held o p pr more q c.in-Ok.ensures.written (c.in-Ok.ensures.goes_on order);
          };
    }

pub returns-in-Err-clause-fault : goal.returns-in-Err-clause-fault
returns-in-Err-clause-fault g c order =
    let t = c.args.task in
    let p = c.loop-progress.progress in
    let start = g.W.Write.contents c.args.writer.now in
    let now = g.W.Write.contents c.loop-progress.writer in
    let pr = c.loop-progress.invariant.printed order in
    cut_new t c.args.progress.now p pr.all start now pr.printed
    (cut_none start now pr.all c.loop-progress.out.items p.written 1 pr.are_held)

pub returns-in-Err-write_held-clause-fault : goal.returns-in-Err-write_held-clause-fault
returns-in-Err-write_held-clause-fault g c order =
    let t = c.args.task in
    let o = c.args.progress.now in
    let p = c.loop-progress.progress in
    let q = c.report_next.new.progress in
    let start = g.W.Write.contents c.args.writer.now in
    let now = g.W.Write.contents c.loop-progress.writer in
    let last = g.W.Write.contents c.write_held.new.writer in
    let held = c.loop-progress.out.items in
    let more = c.report_next.new.out.items in
    let pr = c.loop-progress.invariant.printed order in
    cut_new t o q (pr.are_held.done ++ more) start last
    (more_printed t start now held o p pr more q c.in-Ok.ensures.written (c.in-Ok.ensures.goes_on order))
    (c.in-Err-write_held.ensures.fault start (pr.are_held.done ++ more)
    (more_held t start now held o p pr more q c.in-Ok.ensures.written (c.in-Ok.ensures.goes_on order)))
