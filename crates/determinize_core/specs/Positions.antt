-- The positions of patterns in a list, from a table that is indexed by the pattern.
use Rattle.std.specs.Prelude.{◌≡◌, ℕ, ◌<◌, ◌&&◌, nat_lt, nat_eq, Bool, List, length, slice_index}

-- whether the pattern is the one at a position of the list
abbrev pub stands_at : List ℕ → ℕ → ℕ → Bool
stands_at ps i p = nat_lt i (length ps) && nat_eq (slice_index ps i) p

-- the table has the position of each pattern of the list except the first one; its entries for other patterns mean nothing
abbrev pub ArePositions : List ℕ → List ℕ → Type 0
ArePositions noted ps = (i : ℕ) → 0 < i → i < length ps → slice_index noted (slice_index ps i) ≡ i
