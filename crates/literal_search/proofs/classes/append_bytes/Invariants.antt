use Rattle.std.proofs.Common.{ℕ, ◌+◌, ◌≤◌, [], ◌∷◌}
use Rattle.literal_search.specs.Literals.{KeepsAll, Listed}
use Rattle.literal_search.proofs.classes.append_bytes.Given as goal

abbrev pub invariant-loop-next : goal.invariant-loop-next
invariant-loop-next l =
    (l.next ≤ l.fn.high + 1)
    × KeepsAll l.fn.literals l.literals
    × ((b : ℕ) → l.next ≤ b → b ≤ l.fn.high → Listed l.literals (b ∷ []))

abbrev pub decreases-loop-next : goal.decreases-loop-next
decreases-loop-next l = l.next
