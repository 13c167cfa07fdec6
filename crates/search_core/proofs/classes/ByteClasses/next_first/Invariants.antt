use Rattle.std.proofs.Common.{◌≡◌, ℕ, ◌<◌, ◌≤◌, false}
use Rattle.search_core.specs.Classes.{is_first}
use Rattle.search_core.proofs.classes.ByteClasses.next_first.Given as goal

abbrev pub invariant-loop-byte : goal.invariant-loop-byte
invariant-loop-byte l = (b : ℕ) → l.from ≤ b → b < l.byte → is_first l.self l.lo b ≡ false
