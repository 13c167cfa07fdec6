use Rattle.std.proofs.Common.{◌+◌, ◌-◌, ◌*◌, ◌≤◌}
use Rattle.hir_core.specs.Tree.{concat, alternation}
use Rattle.hir_core.specs.Weight.{weight}
use Rattle.thompson_nfa.specs.Room.{room}
use Rattle.thompson_nfa.proofs.Fragments.ConcatLemmas.{Parts}
use Rattle.thompson_nfa.proofs.Fragments.CopyLemmas.{Copies, Rounds}
use Rattle.thompson_nfa.proofs.Fragments.AlternativeLemmas.{Cases}
use Rattle.thompson_nfa.proofs.compile.+compile.Given as goal

abbrev pub decreases-compile : goal.decreases-compile
decreases-compile l = 8 * weight l.x.now + 1

abbrev pub decreases-captured : goal.decreases-captured
decreases-captured l = 8 * weight l.x.now + 2

abbrev pub decreases-concatenation : goal.decreases-concatenation
decreases-concatenation l = 8 * weight (concat l.subs.now)

abbrev pub decreases-alternatives : goal.decreases-alternatives
decreases-alternatives l = 8 * weight (alternation l.subs.now)

abbrev pub decreases-zero_or_more_of_empty : goal.decreases-zero_or_more_of_empty
decreases-zero_or_more_of_empty l = 8 * weight l.x.now + 2

abbrev pub decreases-one_or_more : goal.decreases-one_or_more
decreases-one_or_more l = 8 * weight l.x.now + 2

abbrev pub decreases-copies : goal.decreases-copies
decreases-copies l = 8 * weight l.x.now + 2

abbrev pub decreases-option : goal.decreases-option
decreases-option l = 8 * weight l.x.now + 2

abbrev pub decreases-zero_or_more : goal.decreases-zero_or_more
decreases-zero_or_more l = 8 * weight l.x.now + 3

abbrev pub decreases-up_to : goal.decreases-up_to
decreases-up_to l = 8 * weight l.x.now + 3

abbrev pub decreases-owed_and_more : goal.decreases-owed_and_more
decreases-owed_and_more l = 8 * weight l.x.now + 3

abbrev pub decreases-at_least : goal.decreases-at_least
decreases-at_least l = 8 * weight l.x.now + 5

abbrev pub decreases-between : goal.decreases-between
decreases-between l = 8 * weight l.x.now + 5

abbrev pub invariant-concatenation-loop-i : goal.invariant-concatenation-loop-i
invariant-concatenation-loop-i l = Parts l.how l.fn.builder l.builder l.first.start l.end l.i l.subs

abbrev pub invariant-copies-loop : goal.invariant-copies-loop
invariant-copies-loop l = Copies l.how l.fn.builder l.builder l.first.start l.end l.counter l.x × (l.counter ≤ l.n)

abbrev pub invariant-up_to-loop : goal.invariant-up_to-loop
invariant-up_to-loop l = Rounds l.how l.fn.builder l.builder l.first.start l.end l.exit l.counter 0 l.most
    (l.most * (room l.how.shrink l.x + 1) + 1) l.greedy l.x

abbrev pub invariant-owed_and_more-loop : goal.invariant-owed_and_more-loop
invariant-owed_and_more-loop l =
    Rounds l.how l.fn.builder l.builder l.prefix.start l.end l.exit l.counter l.min l.most
    (l.min * room l.how.shrink l.x + (l.most - l.min) * (room l.how.shrink l.x + 1) + 1) l.greedy l.x

abbrev pub invariant-alternatives-loop-i : goal.invariant-alternatives-loop-i
invariant-alternatives-loop-i l = Cases l.how l.fn.builder l.builder l.union l.end l.i l.subs
