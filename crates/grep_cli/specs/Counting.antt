-- Counts of bytes, files and lines.
use Rattle.std.specs.Prelude.{ℕ, ◌+◌, ◌-◌, ◌^◌, min}

-- A number of 64 bits to which n was added. The greatest number stands for any number above it.
abbrev pub counted : ℕ → ℕ → ℕ
counted old n = min (old + n) (2 ^ 64 - 1)
