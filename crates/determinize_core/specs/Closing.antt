-- How a depth-first search along transitions without a byte continues after a state that it has met.
use Rattle.std.specs.Prelude.{◌≡◌, ℕ, ◌+◌, List, ◌++◌, length, drop}
use Rattle.std.specs.Bool.{nat_eq}
use Rattle.nfa_core.specs.Walks.{Visits}
use Rattle.nfa_core.specs.Nfa.{Automaton}
use Rattle.determinize_core.specs.Costs.{known_ways}
use Rattle.determinize_core.specs.Steps.{known_steps}

-- what was met in addition to these leads nowhere without a byte
abbrev pub AddsLeaves : Automaton → ℕ → List ℕ → List ℕ → Type 0
AddsLeaves a looks seen met = (more : List ℕ) × (met ≡ seen ++ more) × (known_ways a looks more ≡ 0)

-- The search has met the first k states of a list that it has to visit. Whatever comes after the list, it continues with the others.
pub record VisitsLeaves (a : Automaton) (looks : ℕ) (qs : List ℕ) (k : ℕ) (seen met : List ℕ) : Type 0 where
  pub walk : (later after : List ℕ) → Visits nat_eq (known_steps a looks) (drop k qs ++ later) met after →
      Visits nat_eq (known_steps a looks) (qs ++ later) seen after
  pub grown : AddsLeaves a looks seen met

-- The search has continued after state q. What it has still to visit is what q leads to and what was on the stack, except for leaves that
-- were met. Each of these leaves was counted.
pub record GoesPast (a : Automaton) (looks q : ℕ) (stack seen : List ℕ) (before : ℕ) (later met : List ℕ) (now : ℕ) : Type 0 where
  pub walk : (after : List ℕ) → Visits nat_eq (known_steps a looks) later met after →
      Visits nat_eq (known_steps a looks) (known_steps a looks q ++ stack) seen after
  pub grown : AddsLeaves a looks seen met
  pub below : (k : ℕ) × (later ≡ drop k (known_steps a looks q) ++ stack)
  pub count : now + length later ≡ before + length (known_steps a looks q) + length stack
