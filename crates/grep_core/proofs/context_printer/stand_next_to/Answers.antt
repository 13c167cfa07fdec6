use Rattle.std.proofs.Common.{map, option_map, Bor, List, ℕ}
use Rattle.grep_core.specs.ContextPrinting.{item, print_item}
use Rattle.line_search.specs.LineMatchers.{span_pair}
use Rattle.grep_core.specs.Printing.{text_line}
use Rattle.grep_core.proofs.CourseLemmas.{beside}
use Rattle.grep_core.proofs.context_printer.stand_next_to.Goals as goal

pub returns-clause-goes_on : goal.returns-clause-goes_on
returns-clause-goes_on c flags items = beside c.args.what.now
    (print_item c.args.what.now (option_map (λ (n : Bor (List ℕ)). n.now) c.args.name))
    c.args.course.now.known c.args.course.now.left c.args.course.now.waiting.items c.args.out.now.items c.push_parting.new.out.items
    c.push_item.new.out.items (item (text_line c.args.line) (map span_pair c.args.found.now)) flags items
    c.requires.owed c.requires.waits.none_owed c.in_ok-push_parting.ensures c.in_ok-push_item.ensures
