-- The search with a stack that finds the states which an automaton reaches without a byte.
use Rattle.std.specs.Prelude.{◌≡◌, ℕ, ◌<◌, List, [], ◌∷◌, ◌++◌, Option, Some, None}
use Rattle.std.specs.Bool.{nat_eq}
use Rattle.nfa_core.specs.Walks.{Has, Visits}

-- each name of the list is below n
abbrev pub AreBelow : ℕ → List ℕ → Type 0
AreBelow n names = (q : ℕ) → Has nat_eq q names → q < n

-- whatever the transitions are, a search from the stack `later` with `met` visited ends as one from `stack` with `seen` visited does
abbrev pub GoesOn : List ℕ → List ℕ → List ℕ → List ℕ → Type 0
GoesOn stack seen later met = (ways : ℕ → List ℕ) (after : List ℕ) → Visits nat_eq ways later met after →
    Visits nat_eq ways stack seen after

-- if the search has met a new state, the states that this one leads to come first on the stack
abbrev pub Meets : List ℕ → List ℕ → List ℕ → List ℕ → Option ℕ → Type 0
Meets stack seen later met None = (later ≡ []) × (met ≡ seen) × GoesOn stack seen later met
Meets stack seen later met (Some q) = (met ≡ seen ++ q ∷ []) ×
    ((ways : ℕ → List ℕ) (after : List ℕ) → Visits nat_eq ways (ways q ++ later) met after → Visits nat_eq ways stack seen after)
