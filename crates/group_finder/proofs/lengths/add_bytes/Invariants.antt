use Rattle.std.proofs.Common.{◌≡◌, All, take, true}
use Rattle.search_core.specs.ByteSets.{has}
use Rattle.group_finder.specs.Layouts.{Widens}
use Rattle.group_finder.proofs.lengths.add_bytes.Given as goal

-- the bytes so far are added
abbrev pub invariant-loop-i : goal.invariant-loop-i
invariant-loop-i l = Widens l.fn.set l.set × All (λ b. has l.set b ≡ true) (take l.i l.bytes)
