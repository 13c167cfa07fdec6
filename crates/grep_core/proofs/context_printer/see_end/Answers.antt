use Rattle.grep_core.specs.ContextPrinting.{print_item}
use Rattle.grep_core.proofs.CourseLemmas.{ended}
use Rattle.grep_core.proofs.context_printer.see_end.Goals as goal

pub returns : goal.returns
returns c name = ended c.args.what.now (print_item c.args.what.now name) c.args.course.now.known c.args.course.now.left
    c.args.course.now.waiting.items c.requires.none_owed
