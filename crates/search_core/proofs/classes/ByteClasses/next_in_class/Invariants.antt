use Rattle.std.proofs.Common.{◌≡◌, ℕ, ◌<◌, ◌≤◌, eqb, get_or, false}
use Rattle.search_core.proofs.classes.ByteClasses.next_in_class.Given as goal

abbrev pub invariant-loop-byte : goal.invariant-loop-byte
invariant-loop-byte l = (b : ℕ) → l.from ≤ b → b < l.byte → eqb (get_or l.self b 0) l.class ≡ false
