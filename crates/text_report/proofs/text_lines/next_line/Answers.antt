use Rattle.std.proofs.Common.{List, arith, map, subst, sym}
use Rattle.search_types.specs.declared.span.Span.{Span}
use Rattle.line_search.specs.LineMatchers.{span_pair}
use Rattle.text_report.proofs.SeenLemmas.{has_there, more_before, still_before}
use Rattle.text_report.proofs.TouchingLemmas.{ordered_from}
use Rattle.text_report.specs.Touching.{StartInOrder}
use Rattle.text_report.proofs.text_lines.next_line.Goals as goal

pub returns-clause-has : goal.returns-clause-has
returns-clause-has c order before =
    let line = c.in-Some.line in
    let at = c.in-Some.ensures.some in
    has_there c.args.text.now line at.ordered at.inside c.args.found.now c.first_touching-first.result
    (more_before c.args.found.now c.args.at.first c.first_touching-first.result line.start c.first_touching-first.ensures
    (still_before c.args.found.now c.args.at.first c.args.at.place line.start (omega (arith, at.starts)) before))
    c.args.begun c.from_index.result.now c.has_one-has.result c.from_index.ensures
    (c.has_one-has.ensures (subst (λ (l : List Span). StartInOrder (map span_pair l)) (sym c.from_index.ensures)
    (ordered_from c.first_touching-first.result c.args.found.now order)))
