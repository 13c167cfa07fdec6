-- A list of numbers, and a table with the position of each number in it.
use Rattle.std.specs.Prelude.{◌≡◌, ℕ, ◌+◌, ◌<◌, ◌≤◌, List, length, slice_index}
use Rattle.search_core.specs.Index.{greatest_index}

-- the table has the position of each of the first n numbers
pub record IsPaired (dense places : List ℕ) (n : ℕ) : Type 0 where
  pub within : n ≤ length dense
  pub even : length dense ≡ length places
  pub small : length places ≤ greatest_index + 1
  pub paired : (k : ℕ) → k < n → (slice_index dense k < length places) × (slice_index places (slice_index dense k) ≡ k)
