use Rattle.std.proofs.Common.{◌≡◌, ℕ, ◌≤◌, true, [], ◌∷◌, length, drop}
use Rattle.hir_core.specs.Means.{is_member}
use Rattle.literal_search.specs.Literals.{Listed}
use Rattle.literal_search.proofs.classes.byte_literals.Given as goal

abbrev pub invariant-loop-n : goal.invariant-loop-n
invariant-loop-n l =
    (l.n ≤ length l.ranges)
    × ((b : ℕ) → is_member (drop l.n l.ranges) b ≡ true → Listed l.literals (b ∷ []))

abbrev pub decreases-loop-n : goal.decreases-loop-n
decreases-loop-n l = l.n
