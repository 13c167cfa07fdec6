use Rattle.std.proofs.Common.{◌≡◌, ◌+◌, ℕ, Bool, List, length, drop}
use Rattle.globs.specs.Matching.{after_slash, at_ends, folders}
use Rattle.globs.proofs.matching.folders_table.Given as goal

abbrev pub invariant-loop-i : goal.invariant-loop-i
invariant-loop-i l = record {
  len : length l.table.items + l.i ≡ length l.name + 1;
  value : (rest : List ℕ → Bool) → l.after ≡ at_ends rest l.name → l.is_after ≡ after_slash rest (drop l.i l.name);
  table : (rest : List ℕ → Bool) → l.after ≡ at_ends rest l.name → l.table.items ≡ at_ends (folders rest) (drop l.i l.name);
}
