use Rattle.std.proofs.Common.{◌≡◌, ◌<◌, ℕ, length, true}
use Rattle.search_core.specs.ByteSets.{has}
use Rattle.group_finder.proofs.layout.union.Given as goal

-- the bytes so far of both sets are there
abbrev pub invariant-loop-byte : goal.invariant-loop-byte
invariant-loop-byte l = (length l.all ≡ 256) × ((x : ℕ) → x < l.byte → has l.a x ≡ true → has l.all x ≡ true) ×
    ((x : ℕ) → x < l.byte → has l.b x ≡ true → has l.all x ≡ true)
