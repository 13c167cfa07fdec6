use Rattle.std.proofs.Common.{◌≡◌, ◌+◌, ℕ, Bool, List, length, drop}
use Rattle.globs.specs.Matching.{at_ends, either_then, section_of}
use Rattle.globs.proofs.matching.either_table.Given as goal

abbrev pub invariant-loop-i : goal.invariant-loop-i
invariant-loop-i l = record {
  len : length l.table.items ≡ length l.name + 1;
  table : (rest : List ℕ → Bool) → l.after ≡ at_ends rest l.name → l.table.items ≡ at_ends (either_then (section_of (drop l.i l.section)) rest) l.name;
}
