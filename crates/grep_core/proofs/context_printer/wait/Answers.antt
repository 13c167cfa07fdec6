use Rattle.std.proofs.Common.{map, rules}
use Rattle.grep_core.specs.ContextPrinting.{item, print_item}
use Rattle.line_search.specs.LineMatchers.{span_pair}
use Rattle.grep_core.specs.Printing.{text_line}
use Rattle.grep_core.proofs.CourseLemmas.{waited}
use Rattle.grep_core.proofs.context_printer.wait.Goals as goal

pub returns-then-len-most-clause-goes_on : goal.returns-then-len-most-clause-goes_on
returns-then-len-most-clause-goes_on c name flags items = waited c.args.what.now (print_item c.args.what.now name) c.args.course.now.known
    c.forget_first.new.course.known c.args.course.now.left c.forget_first.new.course.left c.args.course.now.waiting.items
    c.push_back.new.self.items
    c.forget_first.new.course.waiting.items c.in_ok-waiting.waiting
    (item (text_line c.args.line) (map span_pair c.args.found.now)) flags items
    c.requires.none_owed c.forget_first.ensures.left c.in_ok-waiting.ensures c.in_ok-push_back.ensures.items
    (search rules)
    c.forget_first.ensures.waiting
    c.forget_first.ensures.known
