-- Transitions that become known late, as those of looks do: what was closed under fewer of them is closed again under more.
use Rattle.std.specs.Prelude.{◌≡◌, ◌⊎◌, ℕ, ◌<◌, List, [], ◌∷◌}
use Rattle.std.specs.List.{flat_map}

abbrev pub IsHead : {A : Type 0} → A → List A → Type 0
IsHead z [] = ⊥
IsHead z (x ∷ xs) = z ≡ x

-- An item that a list leaves out is passed through, and not in a circle. Either it leads nowhere, or its first way leads to what stands for
-- it. `to x` are the items that stand for x.
abbrev pub IsGoneThrough : {A : Type 0} → (A → List A) → (A → List A) → (A → ℕ) → A → Type 0
IsGoneThrough {A} ways to rank x = (to x ≡ flat_map to (ways x)) × ((to x ≡ []) ⊎
    ((z : A) × (to x ≡ to z) × (rank z < rank x) × IsHead z (ways x)))
