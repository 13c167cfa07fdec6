-- The elements that a loop from a slice's last element to its first has visited.
use Rattle.std.specs.Prelude.{List, map, reverse}
use denote.Ref.{Bor}

-- the end of a slice whose last element was visited first
abbrev pub met_backward : {A : Type 0} → List (Bor A) → List A
met_backward met = reverse (map (λ y. y.now) met)
