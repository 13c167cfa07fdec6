use Rattle.std.proofs.Common.{◌≡◌, ◌<◌, ◌||◌, ℕ, length}
use Rattle.search_core.specs.ByteSets.{has}
use Rattle.hir_core.specs.Means.{is_member}
use Rattle.meta_regex.proofs.char_rounds.mark_all.Given as goal

-- what is marked so far, and the ranges that are left, is all
abbrev pub invariant-loop-range : goal.invariant-loop-range
invariant-loop-range l = (length l.table ≡ length l.fn.table)
    × ((c : ℕ) → c < length l.fn.table → (has l.table c || is_member l.left c) ≡ (has l.fn.table c || is_member l.ranges c))

abbrev pub decreases-loop-range : goal.decreases-loop-range
decreases-loop-range l = length l.left
