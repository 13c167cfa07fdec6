use Rattle.std.proofs.Common.{◌≡◌, ◌<◌, ◌≤◌, ◌⊎◌, ℕ, length, true}
use Rattle.search_core.specs.ByteSets.{has}
use Rattle.meta_regex.proofs.char_rounds.mark.Given as goal

-- the scalars of the range so far are marked, and the others are as they were
abbrev pub invariant-loop-scalar : goal.invariant-loop-scalar
invariant-loop-scalar l = (length l.table ≡ length l.fn.table)
    × ((c : ℕ) → l.first ≤ c → c < l.scalar → has l.table c ≡ true)
    × ((c : ℕ) → c < l.first → has l.table c ≡ has l.fn.table c)
    × ((c : ℕ) → l.scalar ≤ c → has l.table c ≡ has l.fn.table c)
    × ((l.scalar ≡ l.first) ⊎ (l.scalar ≤ l.end))
