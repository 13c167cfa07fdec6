use Rattle.std.proofs.Common.{◌≡◌, ◌<◌, ◌≤◌, ℕ, true}
use Rattle.search_core.specs.ByteSets.{has}
use Rattle.group_finder.specs.Layouts.{Widens}
use Rattle.group_finder.proofs.lengths.add_high.Given as goal

-- the bytes so far are added
abbrev pub invariant-loop-byte : goal.invariant-loop-byte
invariant-loop-byte l = Widens l.fn.set l.set × ((b : ℕ) → b < l.byte → 128 ≤ b → has l.set b ≡ true)
