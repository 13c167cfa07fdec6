use Rattle.std.proofs.Common.{◌≡◌, ℕ, ◌≤◌, true, List, length, drop}
use Rattle.search_core.specs.Utf8.{Spells}
use Rattle.hir_core.specs.Means.{is_member}
use Rattle.literal_search.specs.Literals.{Listed}
use Rattle.literal_search.proofs.classes.char_literals.Given as goal

abbrev pub invariant-loop-n : goal.invariant-loop-n
invariant-loop-n l =
    (l.n ≤ length l.ranges)
    × ((c : ℕ) (s : List ℕ) → is_member (drop l.n l.ranges) c ≡ true → Spells c s → Listed l.literals s)

abbrev pub decreases-loop-n : goal.decreases-loop-n
decreases-loop-n l = l.n
