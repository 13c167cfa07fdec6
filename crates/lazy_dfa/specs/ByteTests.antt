-- Tests of single bytes that can test many bytes at once.
use Rattle.std.specs.Prelude.{◌≡◌, ◌+◌, ◌-◌, ◌%◌, ◌/◌, ◌<◌, ◌≤◌, ◌==◌, ℕ, List, length, map, slice_index, slice_index_or}
use Rattle.std.specs.Prelude.{◌&&◌, Bool, false, not, nat_le, nat_lt, if◌then◌else◌, bit_and}
use Rattle.lazy_dfa.specs.declared.accel.byte_tests.ByteRange.{ByteRange}
use Rattle.lazy_dfa.specs.declared.accel.row_tables.TheConstants.{BITS}

-- whether a bit of a lane is set
abbrev pub has_bits : ℕ → Bool
has_bits lane = not (lane == 0)

-- the low eight bits of a number
abbrev pub wrapped : ℕ → ℕ
wrapped x = x % 256

-- The byte is the first one of the range, or one of the `behind` bytes after it. Here 0 follows 255.
abbrev pub in_range : ByteRange → ℕ → Bool
in_range r byte = nat_le (wrapped (byte + (256 - r.first))) r.behind

-- the marks of the byte's low half and of its high half have a bit in common
abbrev pub in_halves : List ℕ → List ℕ → ℕ → Bool
in_halves low high byte = has_bits (bit_and (slice_index low (byte % 16)) (slice_index high (byte / 16)))

-- the row of the byte's low half, of bytes below 128 or of the others
abbrev pub row_of : List ℕ → List ℕ → ℕ → ℕ
row_of below above byte = if nat_lt byte 128 then slice_index below (byte % 16) else slice_index above (byte % 16)

-- the row of the byte's low half has the bit of its high half
abbrev pub in_rows : List ℕ → List ℕ → ℕ → Bool
in_rows below above byte = has_bits (bit_and (row_of below above byte) (slice_index BITS (byte / 16)))

-- a vector that has sixteen items twice
pub record IsTwice (items : List ℕ) (lanes : List ℕ) : Type 0 where
  pub long : length lanes ≡ 32
  pub each : (k : ℕ) → k < 32 → slice_index lanes k ≡ slice_index items (k % 16)

-- a lane for each byte: all bits are set if the byte passes the test, else none
abbrev pub marked : (ℕ → Bool) → List ℕ → List ℕ
marked test bytes = map (λ x. if test x then 255 else 0) bytes

-- no byte from one offset on and before another one passes the test
abbrev pub NoneSatisfies : (ℕ → Bool) → List ℕ → ℕ → ℕ → Type 0
NoneSatisfies test haystack from to = (k : ℕ) → from ≤ k → k < to → test (slice_index_or haystack k 0) ≡ false

-- From one offset on and before another one, no byte passes the first test while the byte after it passes the second
-- one.
abbrev pub NoPairs : (ℕ → Bool) → (ℕ → Bool) → List ℕ → ℕ → ℕ → Type 0
NoPairs test second haystack from to = (k : ℕ) → from ≤ k → k < to →
    test (slice_index_or haystack k 0) && second (slice_index_or haystack (k + 1) 0) ≡ false
