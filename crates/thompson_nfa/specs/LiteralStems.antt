-- The stem of strings: a text with which each of them begins.
use Rattle.std.specs.Prelude.{◌≡◌, ℕ, ◌+◌, List, [], ◌∷◌, ◌++◌, drop, length}

-- each of the strings has the byte at offset k
abbrev pub HaveAll : ℕ → ℕ → List (List ℕ) → Type 0
HaveAll k b [] = Unit {0}
HaveAll k b (w ∷ ws) = (drop k w ≡ b ∷ drop (k + 1) w) × HaveAll k b ws

-- each of the strings begins with the text
abbrev pub BeginAll : List ℕ → List (List ℕ) → Type 0
BeginAll t [] = Unit {0}
BeginAll t (w ∷ ws) = (w ≡ t ++ drop (length t) w) × BeginAll t ws

-- the strings without so many bytes at their beginning
abbrev pub without_first : ℕ → List (List ℕ) → List (List ℕ)
without_first n [] = []
without_first n (w ∷ ws) = drop n w ∷ without_first n ws

-- all of them, each after the text
abbrev pub after_prefix : List ℕ → List (List ℕ) → List (List ℕ)
after_prefix t [] = []
after_prefix t (w ∷ ws) = (t ++ w) ∷ after_prefix t ws
