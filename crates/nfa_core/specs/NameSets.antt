-- Sets of numbers of states.
use Rattle.std.specs.Prelude.{ℕ, Bool, List, []}
use Rattle.std.specs.List.{list_any}
use Rattle.std.specs.Bool.{nat_eq}

-- a set: its numbers in the order of insertion, and a number above all that it may hold
pub record NameSetValue : Type 0 where
  pub names : List ℕ
  pub bound : ℕ

-- the set for the numbers below the bound with none of them in it
abbrev pub empty_below : ℕ → NameSetValue
empty_below bound = record { names = []; bound = bound }

-- whether the number is in the list
abbrev pub is_in : ℕ → List ℕ → Bool
is_in name names = list_any (nat_eq name) names
