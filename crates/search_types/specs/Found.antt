-- What a contract sees of matches.
use Rattle.std.specs.Prelude.{ℕ}

-- of a `Match`: the pattern's number, and the span from start to end
pub record Found : Type 0 where
  pub pattern : ℕ
  pub start : ℕ
  pub end : ℕ

-- of a `HalfMatch`: the pattern's number, and the offset that the search reached in its direction
pub record HalfFound : Type 0 where
  pub pattern : ℕ
  pub offset : ℕ
