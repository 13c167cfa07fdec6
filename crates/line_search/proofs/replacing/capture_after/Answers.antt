use Rattle.std.proofs.Common.{◌∙◌, option_map, sym}
use Rattle.line_search.specs.LineMatchers.{span_pair}
use Rattle.line_search.proofs.ReplaceLemmas.{none_after, none_past}
use Rattle.line_search.proofs.replacing.capture_after.Goals as goal

pub returns-then-end-line-clause-found : goal.returns-then-end-line-clause-found
returns-then-end-line-clause-found c a same = none_past a c.args.line.now c.args.end c.args.cells.now c.if-end-line.true

pub returns-then-end-line-2-clause-found : goal.returns-then-end-line-2-clause-found
returns-then-end-line-2-clause-found c a same =
    none_after a c.args.line.now c.args.end (option_map span_pair c.capture_from-next.result) c.capture_from-next.new.cells
    c.capture_from-next.new.cells (c.capture_from-next.ensures.found a same) (sym c.ends_at.ensures ∙ c.if-not-ends_at.false) c.if-end-line-2.true
