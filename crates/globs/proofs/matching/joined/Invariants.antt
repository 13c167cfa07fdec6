use Rattle.std.proofs.Common.{◌≡◌, ◌+◌, ◌||◌, ℕ, Bool, List, length, drop}
use Rattle.globs.specs.Matching.{at_ends}
use Rattle.globs.proofs.matching.joined.Given as goal

abbrev pub invariant-loop-i : goal.invariant-loop-i
invariant-loop-i l = record {
  len : length l.table.items + l.i ≡ length l.name + 1;
  table : (f g : List ℕ → Bool) → l.one ≡ at_ends f l.name → l.other ≡ at_ends g l.name → l.table.items ≡ at_ends (λ n. f n || g n) (drop l.i l.name);
}
