-- The counts of calls that count nothing, and of calls that count one.
use Rattle.std.proofs.Common.{◌≡◌, ℕ, ◌+◌, ◌≤◌, arith}

pub none_counted : (n m : ℕ) → n ≤ n + m
none_counted n m = omega arith

pub one_counted : (n m : ℕ) → n ≡ m + 1 → n ≤ m + 1
one_counted n m e = omega arith
