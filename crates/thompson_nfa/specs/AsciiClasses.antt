-- Classes of scalars each of which is spelled by one byte.
use Rattle.std.specs.Prelude.{ℕ, Bool, nat_lt, List}
use Rattle.std.specs.List.{list_all}

-- whether each range ends below the first scalar that takes two bytes
abbrev pub is_ascii : List (ℕ × ℕ) → Bool
is_ascii ranges = list_all (λ r. nat_lt r.1 0x80) ranges
