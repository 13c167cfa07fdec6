use Rattle.std.proofs.Common.{ℕ, List, ◌+◌, ◌≤◌}
use Rattle.search_core.specs.Utf8.{Spells}
use Rattle.literal_search.specs.Literals.{KeepsAll, Listed}
use Rattle.literal_search.proofs.classes.append_chars.Given as goal

abbrev pub invariant-loop-next : goal.invariant-loop-next
invariant-loop-next l =
    (l.next ≤ l.fn.high + 1)
    × KeepsAll l.fn.literals l.literals
    × ((c : ℕ) (s : List ℕ) → l.next ≤ c → c ≤ l.fn.high → Spells c s → Listed l.literals s)

abbrev pub decreases-loop-next : goal.decreases-loop-next
decreases-loop-next l = l.next
