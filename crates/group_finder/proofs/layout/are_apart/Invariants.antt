use Rattle.std.proofs.Common.{◌≡◌, ◌<◌, ℕ, true}
use Rattle.search_core.specs.ByteSets.{has}
use Rattle.group_finder.proofs.layout.are_apart.Given as goal

-- no byte so far is in both sets
abbrev pub invariant-loop-byte : goal.invariant-loop-byte
invariant-loop-byte l = (x : ℕ) → x < l.byte → has l.a x ≡ true → has l.b x ≡ true → ⊥
