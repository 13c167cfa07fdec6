use Rattle.std.proofs.Common.{◌≡◌, ◌+◌, ◌∷◌, [], ℕ, Bool, false, List, length, drop}
use Rattle.globs.specs.Matching.{at_ends}
use Rattle.globs.proofs.matching.flat_table.Given as goal

abbrev pub invariant-loop-i : goal.invariant-loop-i
invariant-loop-i l = record {
  len : length l.table.items + l.i ≡ length l.name + 1;
  table : (rest : List ℕ → Bool) → rest [] ≡ l.fn.first → ((c : ℕ) (cs : List ℕ) → rest (c ∷ cs) ≡ false) → l.table.items ≡ at_ends rest (drop l.i l.name);
}
