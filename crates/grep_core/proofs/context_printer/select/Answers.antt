use Rattle.std.proofs.Common.{map, option_map, Bor, List, ℕ}
use Rattle.grep_core.specs.ContextPrinting.{item, print_item}
use Rattle.line_search.specs.LineMatchers.{span_pair}
use Rattle.grep_core.specs.Printing.{text_line}
use Rattle.grep_core.proofs.CourseLemmas.{selected}
use Rattle.grep_core.proofs.context_printer.select.Goals as goal

pub returns-clause-goes_on : goal.returns-clause-goes_on
returns-clause-goes_on c flags items = selected c.args.what.now
    (print_item c.args.what.now (option_map (λ (n : Bor (List ℕ)). n.now) c.args.name))
    c.args.course.now.known c.print_waiting.new.course.known c.args.course.now.left c.after_of-course.result
    c.args.course.now.waiting.items c.print_waiting.new.course.waiting.items c.args.out.now.items c.print_waiting.new.out.items
    c.push_parting.new.out.items c.push_item.new.out.items (item (text_line c.args.line) (map span_pair c.args.found.now)) flags items
    c.requires.few c.requires.none_owed c.in_ok-print_waiting.ensures.printed c.in_ok-print_waiting.ensures.known
    c.in_ok-print_waiting.ensures.none
    c.in_ok-push_parting.ensures c.in_ok-push_item.ensures c.after_of-course.ensures
