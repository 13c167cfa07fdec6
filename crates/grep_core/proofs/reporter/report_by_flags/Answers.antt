use Rattle.std.proofs.Common.{◌∙◌, map, option_map, sym}
use Rattle.grep_core.specs.ContextPrinting.{item}
use Rattle.line_search.specs.LineMatchers.{span_pair}
use Rattle.grep_core.specs.Printing.{text_line}
use Rattle.grep_core.proofs.TellingLemmas.{lines_told, besides_told}
use Rattle.grep_core.proofs.reporter.report_by_flags.Goals as goal

pub returns-then-prints_lines-clause-goes_on : goal.returns-then-prints_lines-clause-goes_on
returns-then-prints_lines-clause-goes_on c =
    lines_told c.advance.result c.args.what.now.print c.args.what.now c.args.course.now c.advance.new.course c.args.is_selected
    (item (text_line c.args.line) (map span_pair c.args.found.now)) c.args.out.now.items c.advance.new.out.items
    (option_map (λ n. n.now) c.args.name)
    (sym c.prints_lines.ensures ∙ c.if-prints_lines.true) c.advance.ensures.goes_on

pub returns-clause-goes_on : goal.returns-clause-goes_on
returns-clause-goes_on c text with_name n m flags items named more =
    besides_told c.args.what.now.print c.args.what.now text with_name c.args.course.now n m c.args.is_selected c.args.out.now.items flags
    (item (text_line c.args.line) (map span_pair c.args.found.now)) items (sym c.prints_lines.ensures ∙ c.if-prints_lines.false) more
