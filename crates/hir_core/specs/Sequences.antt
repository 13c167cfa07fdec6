-- Ranges of scalars as sequences of byte ranges. A range is cut into pieces. The spellings of a piece's scalars are the
-- strings whose bytes lie, one by one, between those of the spellings of its first and last scalar. This file defines how
-- ranges are cut. The laws (`utf8_sequences_laws`) say what the sequences mean: each spelling of a scalar of the range is a
-- string of exactly one sequence, each string spells one of its scalars, and the sequences ascend.
use Rattle.std.specs.Prelude.{ℕ, zero, suc, ◌+◌, ◌-◌, ◌/◌, ◌%◌, min, Bool, true, false, ◌&&◌, ◌==◌, nat_le, List, [], ◌∷◌, map}
use Rattle.std.specs.Prelude.{if◌then◌else◌}
use Rattle.std.specs.List.{zip}
use Rattle.hir_core.specs.declared.utf8_sequences.Utf8Range.{Utf8Range}
use Rattle.hir_core.specs.declared.utf8_sequences.Utf8Sequence.{Utf8Sequence}
use Rattle.hir_core.specs.declared.utf8_sequences.Utf8Sequence.TheVariants.{One, Two, Three, Four}

-- the least scalar from the number on: surrogates are no scalars
abbrev pub scalar_from : ℕ → ℕ
scalar_from n = if nat_le 0xD800 n && nat_le n 0xDFFF then 0xE000 else n

-- the last scalar of the row that c is in; a row has the scalars whose spellings have one length, and the surrogates
-- separate two rows
abbrev pub row_end : ℕ → ℕ
row_end c =
    if nat_le c 0x7F then 0x7F else if nat_le c 0x7FF then 0x7FF else if nat_le c 0xD7FF then 0xD7FF else if nat_le c 0xFFFF then 0xFFFF
    else 0x10FFFF

-- Where the first piece of the numbers from lo to hi ends, by blocks of so many numbers. If lo and hi lie in different
-- blocks, a first block that isn't whole is a piece of its own, and so is a last one.
abbrev pub block_end : ℕ → ℕ → ℕ → ℕ
block_end size lo hi =
    if lo / size == hi / size then hi
    else if lo % size == 0 then (if hi % size == size - 1 then hi else hi - hi % size - 1)
    else lo - lo % size + (size - 1)

-- the last scalar of the first piece of the scalars from lo to hi
abbrev pub piece_end : ℕ → ℕ → ℕ
piece_end lo hi =
    if nat_le lo 0x7F then min hi 0x7F else block_end 262144 lo (block_end 4096 lo (block_end 64 lo (min hi (row_end lo))))

-- the pieces of the scalars from lo to hi, so many at most: the first scalar of each and its last
abbrev pub pieces_of : ℕ → ℕ → ℕ → List (ℕ × ℕ)
pieces_of zero lo hi = []
pieces_of (suc most) lo hi = elim (nat_le (scalar_from lo) (min hi 0x10FFFF)) as (λ _. List (ℕ × ℕ)) [
  | true ↦ (scalar_from lo, piece_end (scalar_from lo) hi) ∷ pieces_of most (piece_end (scalar_from lo) hi + 1) hi
  | false ↦ []
]

-- the pieces of the scalars from lo to hi, ascending: there are no more than numbers
abbrev pub pieces : ℕ → ℕ → List (ℕ × ℕ)
pieces lo hi = pieces_of (hi + 1 - lo) lo hi

-- the bytes that spell the scalar: those of std's `encode_utf8`, as a law says, written out so that they compute
abbrev pub spelling_of : ℕ → List ℕ
spelling_of c =
    if nat_le c 0x7F then c ∷ []
    else if nat_le c 0x7FF then (192 + c / 64) ∷ (128 + c % 64) ∷ []
    else if nat_le c 0xFFFF then (224 + c / 4096) ∷ (128 + (c / 64) % 64) ∷ (128 + c % 64) ∷ []
    else (240 + c / 262144) ∷ (128 + (c / 4096) % 64) ∷ (128 + (c / 64) % 64) ∷ (128 + c % 64) ∷ []

-- the byte ranges of a piece: the bytes of the two spellings, paired one by one
abbrev pub byte_ranges : ℕ × ℕ → List (ℕ × ℕ)
byte_ranges p = zip (spelling_of p.0) (spelling_of p.1)

-- the byte ranges of each piece of the scalars from lo to hi
abbrev pub utf8_sequences : ℕ → ℕ → List (List (ℕ × ℕ))
utf8_sequences lo hi = map byte_ranges (pieces lo hi)

-- the ranges of a sequence, first to last
abbrev pub ranges_in : Utf8Sequence → List Utf8Range
ranges_in (One r) = r ∷ []
ranges_in (Two rs) = rs
ranges_in (Three rs) = rs
ranges_in (Four rs) = rs

-- the two bytes of a range
abbrev pub bytes_of : Utf8Range → ℕ × ℕ
bytes_of r = (r.start, r.end)

-- and of each range of a sequence
abbrev pub ranges_of_sequence : Utf8Sequence → List (ℕ × ℕ)
ranges_of_sequence s = map bytes_of (ranges_in s)

-- the bytes are as many as the ranges, each in its range
abbrev pub is_in_ranges : List (ℕ × ℕ) → List ℕ → Bool
is_in_ranges [] [] = true
is_in_ranges [] (b ∷ bs) = false
is_in_ranges (r ∷ rs) [] = false
is_in_ranges (r ∷ rs) (b ∷ bs) = nat_le r.0 b && nat_le b r.1 && is_in_ranges rs bs

-- the bytes begin with such a string
abbrev pub begins_in_ranges : List (ℕ × ℕ) → List ℕ → Bool
begins_in_ranges [] bs = true
begins_in_ranges (r ∷ rs) [] = false
begins_in_ranges (r ∷ rs) (b ∷ bs) = nat_le r.0 b && nat_le b r.1 && begins_in_ranges rs bs
