-- Which group a slot is of.
use Rattle.std.specs.Prelude.{◌≡◌, ℕ, ◌+◌, ◌⊎◌, Some}
use Rattle.search_types.specs.Groups.{Groups, slot}

-- k is one of the two slots of group g of pattern p
abbrev pub IsSlotOf : Groups → ℕ → ℕ → ℕ → Type 0
IsSlotOf gs k p g = (first : ℕ) × (slot gs p g ≡ Some first) × ((k ≡ first) ⊎ (k ≡ first + 1))
