use Rattle.std.proofs.Common.{◌++◌, option_map, Bor, List, ℕ, refl}
use Rattle.grep_core.specs.ContextPrinting.{print_item}
use Rattle.grep_core.specs.declared.role.Role.TheVariants.{Selected}
use Rattle.grep_core.proofs.CourseLemmas.{selected}
use Rattle.grep_core.proofs.context_printer.select_first.Goals as goal

pub returns-clause-goes_on : goal.returns-clause-goes_on
returns-clause-goes_on c it flags items = selected c.args.what.now
    (print_item c.args.what.now (option_map (λ (n : Bor (List ℕ)). n.now) c.args.name))
    c.args.course.now.known c.print_waiting.new.course.known c.args.course.now.left c.after_of-course.result
    c.args.course.now.waiting.items c.print_waiting.new.course.waiting.items c.args.out.now.items c.print_waiting.new.out.items
    c.push_parting.new.out.items
    (c.push_parting.new.out.items ++ print_item c.args.what.now (option_map (λ (n : Bor (List ℕ)). n.now) c.args.name) Selected it)
    it flags items
    c.requires.few c.requires.none_owed c.in_ok-print_waiting.ensures.printed c.in_ok-print_waiting.ensures.known
    c.in_ok-print_waiting.ensures.none
    c.in_ok-push_parting.ensures refl c.after_of-course.ensures
