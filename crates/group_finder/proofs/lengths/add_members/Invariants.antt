use Rattle.std.proofs.Common.{◌≡◌, ◌<◌, ℕ, true}
use Rattle.regex_class.specs.Ranges.{in_ranges}
use Rattle.search_core.specs.ByteSets.{has}
use Rattle.group_finder.specs.Layouts.{Widens}
use Rattle.group_finder.proofs.lengths.add_members.Given as goal

-- the members so far are added
abbrev pub invariant-loop-byte : goal.invariant-loop-byte
invariant-loop-byte l = Widens l.fn.set l.set × ((b : ℕ) → b < l.byte → in_ranges l.class.ranges.items b ≡ true → has l.set b ≡ true)
