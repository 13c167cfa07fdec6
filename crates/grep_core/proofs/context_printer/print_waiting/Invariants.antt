use Rattle.std.proofs.Common.{◌≡◌, ◌++◌, map, option_map, length, Bor, List, ℕ}
use Rattle.grep_core.specs.ContextPrinting.{queued, after_queue, print_item, waiting_item}
use Rattle.grep_core.proofs.context_printer.print_waiting.Given as goal

abbrev pub invariant-loop-it : goal.invariant-loop-it
invariant-loop-it l =
    (l.out.items ++ queued l.what (print_item l.what (option_map (λ (n : Bor (List ℕ)). n.now) l.name)) l.course.known
    (map waiting_item l.course.waiting.items)
    ≡ l.initial.out.items ++ queued l.what (print_item l.what (option_map (λ (n : Bor (List ℕ)). n.now) l.name)) l.initial.course.known
    (map waiting_item l.initial.course.waiting.items))
    × (after_queue l.course.known l.course.waiting.items ≡ after_queue l.initial.course.known l.initial.course.waiting.items)
    × (l.course.left ≡ l.initial.course.left)

abbrev pub decreases-loop-it : goal.decreases-loop-it
decreases-loop-it l = length l.course.waiting.items
