-- Ranges of numbers as ranges of bytes and of characters: a number above FF is no byte, a surrogate no character.
use Rattle.std.specs.Prelude.{ℕ, List, [], ◌∷◌, ◌++◌, min, max, nat_lt, nat_le, if◌then◌else◌}

-- what of the range is bytes
abbrev pub of_bytes : ℕ × ℕ → List (ℕ × ℕ)
of_bytes r = if nat_le r.0 (min r.1 0xFF) then (r.0, min r.1 0xFF) ∷ [] else []

-- the ranges without numbers above FF
abbrev pub cut_to_bytes : List (ℕ × ℕ) → List (ℕ × ℕ)
cut_to_bytes [] = []
cut_to_bytes (r ∷ rs) = of_bytes r ++ cut_to_bytes rs

-- what of the range is below the surrogates, and what is above them
abbrev pub below_surrogates : ℕ × ℕ → List (ℕ × ℕ)
below_surrogates r = if nat_lt r.0 0xD800 then (r.0, min r.1 0xD7FF) ∷ [] else []

abbrev pub above_surrogates : ℕ × ℕ → List (ℕ × ℕ)
above_surrogates r = if nat_lt 0xDFFF r.1 then (max r.0 0xE000, r.1) ∷ [] else []

-- the ranges without surrogates
abbrev pub without_surrogates : List (ℕ × ℕ) → List (ℕ × ℕ)
without_surrogates [] = []
without_surrogates (r ∷ rs) = below_surrogates r ++ (above_surrogates r ++ without_surrogates rs)
