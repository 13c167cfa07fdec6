-- What a piece of a range of scalars is: scalars of one row whose spellings are all strings of one sequence of byte ranges.
use Rattle.std.specs.Prelude.{◌≡◌, ℕ, ◌+◌, ◌-◌, ◌/◌, ◌%◌, ◌≤◌, ◌⊎◌, List, [], ◌∷◌}

-- f and e lie in one block of so many numbers, or the numbers from f to e are whole blocks
abbrev pub Aligned : ℕ → ℕ → ℕ → Type 0
Aligned size f e = (f / size ≡ e / size) ⊎ ((f % size ≡ 0) × (e % size ≡ size - 1))

-- aligned for the blocks of one byte after the first, of two bytes and of three
abbrev pub Blocks : ℕ → ℕ → Type 0
Blocks f e = Aligned 64 f e × Aligned 4096 f e × Aligned 262144 f e

-- the scalars from f to e, in this order, lie in one row and fill their blocks
abbrev pub IsPiece : ℕ → ℕ → Type 0
IsPiece f e =
    (f ≤ e)
    × ((e ≤ 0x7F)
    ⊎ (((0x80 ≤ f) × (e ≤ 0x7FF) × Blocks f e)
    ⊎ (((0x800 ≤ f) × (e ≤ 0xD7FF) × Blocks f e)
    ⊎ (((0xE000 ≤ f) × (e ≤ 0xFFFF) × Blocks f e) ⊎ ((0x10000 ≤ f) × (e ≤ 0x10FFFF) × Blocks f e)))))

-- a piece between two numbers
abbrev pub IsPieceOf : ℕ → ℕ → ℕ × ℕ → Type 0
IsPieceOf low hi p = (low ≤ p.0) × (p.1 ≤ hi) × IsPiece p.0 p.1

-- pieces between two numbers, each after the one before it
abbrev pub Rises : ℕ → ℕ → List (ℕ × ℕ) → Type 0
Rises low hi [] = Unit {0}
Rises low hi (p ∷ ps) = (low ≤ p.0) × (p.1 ≤ hi) × IsPiece p.0 p.1 × Rises (p.1 + 1) hi ps
