-- The numbers that name states and patterns.
use Rattle.std.specs.Prelude.{◌≡◌, ℕ, ◌<◌, ◌≤◌, Result, MatchResult}

-- the greatest index, 2 ^ 31 - 2: so a length of 2 ^ 31 - 1 still fits a signed number of 32 bits
abbrev pub greatest_index : ℕ
greatest_index = 2147483646

-- what making an index of the number n returns: the index n if n is at most the greatest index, otherwise an
-- error that has n
abbrev pub IsIndexOrError : ℕ → Result ℕ ℕ → Type 0
IsIndexOrError n result =
    MatchResult result (λ index. (n ≤ greatest_index) × (index ≡ n)) (λ refused. (greatest_index < n) × (refused ≡ n))
