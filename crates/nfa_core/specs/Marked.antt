-- A list of numbers, and a table with a bit for each number.
use Rattle.std.specs.Prelude.{◌≡◌, ℕ, Bool, ◌<◌, ◌≤◌, ◌+◌, ◌/◌, ◌%◌, List, length, slice_index, All}
use Rattle.std.specs.List.{IsDistinct}
use Rattle.std.specs.Int.{bit_at}
use Rattle.std.specs.Bool.{nat_eq}
use Rattle.search_core.specs.Index.{greatest_index}
use Rattle.nfa_core.specs.NameSets.{is_in}

-- whether the number's bit is set, 64 numbers in a word
abbrev pub is_marked : List ℕ → ℕ → Bool
is_marked words n = nat_eq (bit_at (slice_index words (n / 64)) (n % 64)) 1

-- how many words have a bit for each number below the bound
abbrev pub words_below : ℕ → ℕ
words_below bound = (bound + 63) / 64

-- the numbers of the list are those whose bits are set
pub record IsMarked (names words : List ℕ) (bound : ℕ) : Type 0 where
  pub distinct : IsDistinct nat_eq names
  pub below : All (λ x. x < bound) names
  pub fits : length names ≤ bound
  pub small : bound ≤ greatest_index + 1
  pub wide : words_below bound ≤ length words
  pub marks : (n : ℕ) → is_marked words n ≡ is_in n names
