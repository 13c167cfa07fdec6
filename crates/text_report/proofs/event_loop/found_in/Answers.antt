use Rattle.std.proofs.Common.{map}
use Rattle.line_search.specs.LineMatchers.{span_pair}
use Rattle.line_search.specs.Searchers.{found_by}
use Rattle.text_report.specs.EventCourse.{group_of}
use Rattle.text_report.specs.Touching.{AreBefore, StartInOrder}
use Rattle.text_report.proofs.EventLoopLemmas.{given, some_by_text}
use Rattle.text_report.proofs.event_loop.found_in.Goals as goal

pub returns-in-Ok-clause-found : goal.returns-in-Ok-clause-found
returns-in-Ok-clause-found c by order =
    some_by_text c.args.task (found_by by) c.args.group c.in-Some.found (map span_pair c.in-Ok.parts.items) c.in-Some.is c.requires.lies.ordered
    c.requires.lies.inside
    (c.in-Ok.ensures (given (λ found. StartInOrder (map span_pair found.now)) c.args.task.found c.in-Some.found c.in-Some.is order)
    (given (λ found. AreBefore found.now c.args.first c.args.group.first.start) c.args.task.found c.in-Some.found c.in-Some.is c.requires.past))
