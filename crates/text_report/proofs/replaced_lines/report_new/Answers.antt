use Rattle.std.proofs.Common.{◌≤◌, arith, length, refl}
use Rattle.text_report.specs.LineSpans.{lines_from}
use Rattle.text_report.specs.ReplacedProgress.{new_left}
use Rattle.text_report.proofs.NewLineLemmas.{new_ended, no_new, then_new}
use Rattle.text_report.proofs.SeenLemmas.{none_before_first}
use Rattle.text_report.proofs.replaced_lines.report_new.Goals as goal

pub loop-at-init : goal.loop-at-init
loop-at-init c = record {
  waits = c.requires.waits;
  past = none_before_first c.args.lines.task.found.now 0 c.args.lines.start refl;
  reports = λ order. no_new c.args.lines
      (lines_from c.args.lines.task.what.now.terminator c.args.lines.task.text.now c.args.number c.args.lines.start) c.args.telling.now
      c.args.out.now.items;
}

pub loop-at-preserved : goal.loop-at-preserved
loop-at-preserved c = record {
  waits = c.in-Ok.ensures.waits;
  past = c.in-Ok.ensures.past;
  reports = λ order. then_new c.args.lines
      (lines_from c.args.lines.task.what.now.terminator c.args.lines.task.text.now c.args.number c.args.lines.start)
      (new_left c.args.lines c.loop-at.at) (new_left c.args.lines c.in-Ok.next) c.args.telling.now c.loop-at.telling c.report_next.new.telling
      c.args.out.now.items c.loop-at.out.items c.report_next.new.out.items (c.loop-at.invariant.reports order) (c.in-Ok.ensures.goes_on order);
}

pub returns-clause-goes_on : goal.returns-clause-goes_on
returns-clause-goes_on c order =
    let past : length c.args.lines.task.text.now ≤ c.loop-at.at.place = omega (arith, c.loop-at-test.false) in
    new_ended c.args.lines (lines_from c.args.lines.task.what.now.terminator c.args.lines.task.text.now c.args.number c.args.lines.start)
    c.args.telling.now c.loop-at.telling c.args.out.now.items c.loop-at.out.items c.loop-at.at past (c.loop-at.invariant.reports order)
