-- The bytes that pass a test, one after the other, and sets of bytes: a list with a test for each byte.
use Rattle.std.specs.Prelude.{◌≡◌, ◌<◌, ◌≤◌, ◌+◌, ◌-◌, ◌&&◌, nat_lt, not, ℕ, Bool, true, false, MatchOption, Option, slice_index_or, drop}
use Rattle.std.specs.Prelude.{List, map}
use Rattle.std.specs.List.{filter, range_with_len, prefix_len}

-- the bytes from `from` on and below `end` that pass the test, ascending
unfoldable pub bytes_where : (ℕ → Bool) → ℕ → ℕ → List ℕ
bytes_where test from end = filter test (range_with_len from (end - from))

-- r is the first of these bytes, or `None` if there is none
abbrev pub IsFirstWhere : (ℕ → Bool) → ℕ → ℕ → Option ℕ → Type 0
IsFirstWhere test from end r = MatchOption r
    ((k : ℕ) → from ≤ k → k < end → test k ≡ false)
    (λ b. (from ≤ b) × (b < end) × (test b ≡ true) × ((k : ℕ) → from ≤ k → k < b → test k ≡ false))

-- the byte is in the set
abbrev pub has : List Bool → ℕ → Bool
has set b = slice_index_or set b false

-- the byte is in the set, and the byte before it isn't
abbrev pub starts_range : List Bool → ℕ → Bool
starts_range set b = has set b && not (nat_lt 0 b && has set (b - 1))

-- the last byte e such that every byte after b up to e is in the set
abbrev pub range_end : List Bool → ℕ → ℕ
range_end set b = b + prefix_len (λ m. m) (drop (b + 1) set)

-- the maximal ranges of the set that start at `from` or above, ascending
abbrev pub ranges_from : List Bool → ℕ → List (ℕ × ℕ)
ranges_from set from = map (λ b. (b, range_end set b)) (bytes_where (starts_range set) from 256)

-- all bytes of the set, and all its maximal ranges, ascending
abbrev pub members_of : List Bool → List ℕ
members_of set = bytes_where (has set) 0 256

abbrev pub ranges_of : List Bool → List (ℕ × ℕ)
ranges_of set = ranges_from set 0
