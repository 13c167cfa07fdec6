-- A class for each byte, as a list of the 256 classes.
use Rattle.std.specs.Prelude.{◌≡◌, ◌≤◌, ◌<◌, ◌+◌, ◌⊎◌, ◌-◌, ◌^◌, ◌==◌, ◌||◌, ◌++◌, nat_le, not, cond, map, ℕ, Bool, Option, Some, None}
use Rattle.std.specs.Prelude.{List, [], ◌∷◌, slice_index}
use Rattle.std.specs.List.{range_with_len}
use Rattle.search_core.specs.ByteSets.{bytes_where}
use Rattle.search_core.specs.declared.unit.Unit.{Unit as InputUnit}
use Rattle.search_core.specs.declared.unit.Unit.TheVariants.{Byte, End}

-- the class of a unit; the end of the input has its own number
abbrev pub unit_class : List ℕ → InputUnit → ℕ
unit_class classes (Byte b) = slice_index classes b
unit_class classes (End n) = n

-- how many units there are: the classes from 0 to that of the last byte, and the end of the input
abbrev pub alphabet_size : List ℕ → ℕ
alphabet_size classes = slice_index classes 255 + 2

-- the classes start at 0 and rise by at most one from byte to byte, as those that are made by marks do; classes that are set
-- one by one need not
pub record IsRising (classes : List ℕ) : Type 0 where
  pub start : slice_index classes 0 ≡ 0
  pub next : (b : ℕ) → b < 255 → (slice_index classes (b + 1) ≡ slice_index classes b) ⊎
      (slice_index classes (b + 1) ≡ slice_index classes b + 1)

-- whether 2 ^ k is the least power of two that isn't below n
abbrev pub IsLeastExponent : ℕ → ℕ → Type 0
IsLeastExponent k n = (n ≤ 2 ^ k) × ((j : ℕ) → j < k → 2 ^ j < n)

-- the units from number `next` on: a class for each number below n, and the end of the input, whose number is n
abbrev pub units_from : ℕ → ℕ → List InputUnit
units_from n next = map Byte (range_with_len next (n - next)) ++ cond (nat_le next n) (End n ∷ []) []

-- all units: a class for each number up to that of the last byte, whether another byte has it or not, and the end of the input
abbrev pub all_units : List ℕ → List InputUnit
all_units classes = units_from (slice_index classes 255 + 1) 0

-- the units of a class from the byte `from` on: its bytes, ascending; for the end of the input, only itself
abbrev pub elements_from : List ℕ → InputUnit → ℕ → List InputUnit
elements_from classes (Byte c) from = map Byte (bytes_where (λ b. slice_index classes b == c) from 256)
elements_from classes (End n) from = cond (nat_le from 256) (End n ∷ []) []

-- the units of a class: all bytes that are in it, wherever they are; for the end of the input, only itself
abbrev pub elements_of : List ℕ → InputUnit → List InputUnit
elements_of classes class = elements_from classes class 0

-- whether b is lo or in another class than the byte before it
abbrev pub is_first : List ℕ → ℕ → ℕ → Bool
is_first classes lo b = (b == lo) || not (slice_index classes b == slice_index classes (b - 1))

-- one above the last byte of a range that ends at hi, or at the end of the input
abbrev pub range_limit : Option ℕ → ℕ
range_limit None = 256
range_limit (Some hi) = hi + 1

-- the end of the input, if the range goes that far and it hasn't been returned yet
abbrev pub end_left : List ℕ → Option ℕ → ℕ → List InputUnit
end_left classes None from = cond (nat_le from 256) (End (slice_index classes 255 + 1) ∷ []) []
end_left classes (Some hi) from = []

-- the first unit of each class that is met in the range from lo to hi, from the byte `from` on
abbrev pub first_units : List ℕ → ℕ → Option ℕ → ℕ → List InputUnit
first_units classes lo hi from = map Byte (bytes_where (is_first classes lo) from (range_limit hi)) ++ end_left classes hi from

-- the first unit of each class that is met in the range from lo to hi, or to the end of the input
abbrev pub representatives_of : List ℕ → ℕ → Option ℕ → List InputUnit
representatives_of classes lo hi = first_units classes lo hi lo
