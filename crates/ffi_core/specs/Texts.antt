-- Patterns that are stored one after the other.
use Rattle.std.specs.Prelude.{ℕ, List, [], ◌∷◌, take, drop}

-- The patterns of these lengths, in order.
unfoldable pub cut : List ℕ → List ℕ → List (List ℕ)
cut [] bytes = []
cut (n ∷ ns) bytes = take n bytes ∷ cut ns (drop n bytes)
