-- Slots that are filled from the first one on.
use Rattle.std.specs.Prelude.{◌≡◌, ℕ, List, length, min}
use Rattle.meta_regex.specs.Regexes.{overlaid}

-- These were filled with the first list as far as there is room, and what is after them is as it was. So many of them are filled.
pub record AreFilled (done old now : List ℕ) (filled : ℕ) : Type 0 where
  pub laid : now ≡ overlaid done old
  pub filled_are : filled ≡ min (length done) (length old)
