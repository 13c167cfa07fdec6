-- What a step needs: its two sets, and the state from which it is made.
use Rattle.std.specs.Prelude.{◌≡◌, ◌<◌, ℕ, List, All}
use Rattle.std.specs.Bool.{nat_eq}
use Rattle.std.specs.List.{IsDistinct}

-- two sets with these bounds have room for the states of an automaton that has so many
pub record AreSetsFor (states first second : ℕ) : Type 0 where
  pub bound1 : first ≡ states
  pub bound2 : second ≡ states

-- these are states of an automaton that has so many, none twice
pub record AreStatesOf (states : ℕ) (ids : List ℕ) : Type 0 where
  pub below : All (λ q. q < states) ids
  pub once : IsDistinct nat_eq ids
