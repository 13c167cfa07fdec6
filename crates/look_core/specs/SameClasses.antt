-- Haystacks that are alike at each index.
use Rattle.std.specs.Prelude.{◌≡◌, ◌<◌, ◌⊎◌, ℕ, Bool, List, length}
use Rattle.search_core.specs.Characters.{byte_or_zero}
use Rattle.search_core.specs.Marks.{marks_below}

-- of one length, with bytes of the same class at each index
abbrev pub HaveSameClasses : List Bool → List ℕ → List ℕ → Type 0
HaveSameClasses marks h g = (length h ≡ length g) × ((k : ℕ) → k < length h →
    marks_below marks (byte_or_zero h k) ≡ marks_below marks (byte_or_zero g k))

-- different at most where both have a byte of ASCII
abbrev pub DifferInAscii : List ℕ → List ℕ → Type 0
DifferInAscii h g = (k : ℕ) → k < length h → (byte_or_zero h k ≡ byte_or_zero g k) ⊎ ((byte_or_zero h k < 128) × (byte_or_zero g k < 128))
