-- Patterns that are strings: they stand for themselves alone.
use Rattle.std.specs.Prelude.{ℕ, ◌==◌, Bool, not, nat_lt, List, chars, codes, length}
use Rattle.std.specs.List.{list_any}

-- The byte is an operator of patterns, or begins one.
abbrev pub is_special : ℕ → Bool
is_special b = list_any (λ c. c == b) (codes "\\.^$|*+?()[{")

abbrev pub has_operator : List ℕ → Bool
has_operator pattern = list_any is_special pattern

-- All patterns are strings: none has an operator.
abbrev pub are_strings : List (List ℕ) → Bool
are_strings patterns = not (list_any has_operator patterns)

-- The first pattern has more characters than the second one.
abbrev pub is_longer : List ℕ → List ℕ → Bool
is_longer a b = nat_lt (length (chars b)) (length (chars a))
