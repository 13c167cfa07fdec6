-- Marks on bytes: the bytes b and b + 1 are in different classes exactly if b has a mark.
use Rattle.std.specs.Prelude.{◌≡◌, ◌<◌, ◌≤◌, ◌⊎◌, ◌-◌, ◌==◌, ℕ, Bool, true, false, cond, length, take, count_by, slice_set, slice_index_or}
use Rattle.std.specs.Prelude.{List}
use Rattle.std.specs.List.{fold}

-- how many of the bytes below b have a mark
abbrev pub marks_below : List Bool → ℕ → ℕ
marks_below marks b = count_by (λ m. m) (take b marks)

-- with a mark at the byte before lo, if there is one
abbrev pub mark_before : List Bool → ℕ → List Bool
mark_before marks lo = cond (lo == 0) marks (slice_set marks (lo - 1) true)

-- with the marks of the range from lo to hi: before lo and at hi
abbrev pub mark_range : List Bool → ℕ → ℕ → List Bool
mark_range marks lo hi = slice_set (mark_before marks lo) hi true

-- with the marks of each range in turn
abbrev pub recorded : List Bool → List (ℕ × ℕ) → List Bool
recorded marks ranges = fold (λ m r. mark_range m r.0 r.1) marks ranges

-- no byte has a mark
abbrev pub IsUnmarked : List Bool → Type 0
IsUnmarked marks = (b : ℕ) → b < length marks → slice_index_or marks b false ≡ false

-- a range of bytes below n
abbrev pub IsRangeBelow : ℕ → ℕ × ℕ → Type 0
IsRangeBelow n r = (r.0 ≤ r.1) × (r.1 < n)

-- the byte c is in the range
abbrev pub IsIn : ℕ × ℕ → ℕ → Type 0
IsIn r c = (r.0 ≤ c) × (c ≤ r.1)

-- the range holds all bytes from a to b, or none of them
abbrev pub HoldsAllOrNone : ℕ → ℕ → ℕ × ℕ → Type 0
HoldsAllOrNone a b r = ((c : ℕ) → a ≤ c → c ≤ b → IsIn r c) ⊎ ((c : ℕ) → a ≤ c → c ≤ b → IsIn r c → ⊥)

-- each mark of the others is among the marks
pub record HasMarks (marks others : List Bool) : Type 0 where
  pub len : length marks ≡ length others
  pub marked : (k : ℕ) → slice_index_or others k false ≡ true → slice_index_or marks k false ≡ true
