use Rattle.std.proofs.Common.{◌≡◌, ◌+◌, ℕ, Bool, List, length, drop, map}
use Rattle.globs.specs.Matching.{at_ends, item_of, items_then}
use Rattle.globs.proofs.matching.items_table.Given as goal

abbrev pub invariant-loop-i : goal.invariant-loop-i
invariant-loop-i l = record {
  len : length l.table.items ≡ length l.name + 1;
  table : (rest : List ℕ → Bool) → l.after ≡ at_ends rest l.name → l.table.items ≡ at_ends (items_then (map item_of (drop l.i l.items)) rest) l.name;
}
