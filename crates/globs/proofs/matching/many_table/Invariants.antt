use Rattle.std.proofs.Common.{◌≡◌, ◌+◌, ℕ, Bool, List, length, drop}
use Rattle.globs.specs.Matching.{at_ends, item_of, many, takes}
use Rattle.globs.proofs.matching.many_table.Given as goal

abbrev pub invariant-loop-i : goal.invariant-loop-i
invariant-loop-i l = record {
  len : length l.table.items + l.i ≡ length l.name + 1;
  value : (rest : List ℕ → Bool) → l.after ≡ at_ends rest l.name → l.is ≡ many (takes (item_of l.item)) rest (drop l.i l.name);
  table : (rest : List ℕ → Bool) → l.after ≡ at_ends rest l.name → l.table.items ≡ at_ends (many (takes (item_of l.item)) rest) (drop l.i l.name);
}
