-- How many scalars the ranges of a class have, surrogates counted.
use Rattle.std.specs.Prelude.{ℕ, suc, ◌+◌, ◌-◌, List, [], ◌∷◌}

abbrev pub scalars_in : List (ℕ × ℕ) → ℕ
scalars_in [] = 0
scalars_in ((first, last) ∷ ranges) = suc (last - first) + scalars_in ranges
