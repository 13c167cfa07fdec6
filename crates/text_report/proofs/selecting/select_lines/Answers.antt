use Rattle.std.proofs.Common.{◌≡◌, ◌++◌, ◌∙◌, drop, subst, true}
use Rattle.line_search.specs.Searchers.{SearchesFor, Sought, found_by}
use Rattle.text_report.specs.EventCourse.{flags_of}
use Rattle.text_report.specs.LineSpans.{split_at}
use Rattle.text_report.proofs.EventLemmas.{flags_all}
use Rattle.text_report.proofs.selecting.select_lines.Goals as goal

pub loop-at-preserved : goal.loop-at-preserved
loop-at-preserved c = record {
  inside = c.in-Ok.ensures.within;
  same = c.in-Ok.ensures.same ∙ c.loop-at.invariant.same;
  kept = λ by. c.loop-at.invariant.kept by
      ∙ subst (λ (s : Sought). (by : SearchesFor s true) →
      c.loop-at.flags.items ++ flags_of c.args.what.now (found_by by) c.loop-at.count
      (split_at c.args.what.now.terminator (drop c.loop-at.at c.args.text.now))
      ≡ c.select_line.new.flags.items ++ flags_of c.args.what.now (found_by by) c.in-Ok.next.1
      (split_at c.args.what.now.terminator (drop c.in-Ok.next.0 c.args.text.now))) c.loop-at.invariant.same c.in-Ok.ensures.goes_on by;
}

pub returns-clause-selected : goal.returns-clause-selected
returns-clause-selected c by =
    flags_all c.args.what.now (found_by by) c.args.text.now c.loop-at.flags.items c.loop-at.count c.loop-at.at c.loop-at-test.false
    (c.loop-at.invariant.kept by)
