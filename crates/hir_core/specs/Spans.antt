-- Where a span of a haystack may lie, whatever tree matches it.
use Rattle.std.specs.Prelude.{ℕ, ◌≤◌, max, List, length}

-- the span goes forward, and if it starts at an offset of the haystack, it stays within the haystack
pub record IsSpan (h : List ℕ) (i j : ℕ) : Type 0 where
  pub forward : i ≤ j
  pub within : j ≤ max i (length h)
