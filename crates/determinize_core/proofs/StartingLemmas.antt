-- The parts of which a start state is made.
use Rattle.std.proofs.Common.{◌≡◌, ℕ, ◌+◌, ◌<◌, ◌≤◌, List, [], ◌∷◌, length, drop, All, ap, arith, subst}
use Rattle.std.specs.Bool.{nat_eq}
use Rattle.std.specs.List.{IsDistinct}
use Rattle.nfa_core.specs.Walks.{Visits}
use Rattle.nfa_core.specs.Nfa.{Automaton, IsWellFormed}
use Rattle.nfa_core.specs.Reached.{AreBelow}
use Rattle.nfa_core.proofs.ForCallers.{none_in, of_cons, names_equal, has_from_all}
use Rattle.determinize_core.specs.Costs.{known_ways, free_ways}
use Rattle.determinize_core.specs.Steps.{known_steps, closed}
use Rattle.determinize_core.proofs.CloseAllLemmas.{closed_is, once_from_distinct, ways_once}

pub one_inside : (n q : ℕ) → q < n → AreBelow n (q ∷ [])
one_inside n q low = of_cons nat_eq names_equal (λ r. r < n) q [] low (λ r h. none_in nat_eq r _ h)

module _ (a : Automaton) (formed : IsWellFormed a) (q : ℕ) (low : q < length a.states) (looks : ℕ) (old set : List ℕ) (none : old ≡ [])
    (v : Visits nat_eq (known_steps a looks) (q ∷ []) old set) where
  pub one_closed : set ≡ closed a looks (q ∷ [])
  one_closed = closed_is a looks formed (q ∷ []) set (one_inside (length a.states) q low)
      (subst (λ (l : List ℕ). Visits nat_eq (known_steps a looks) (q ∷ []) l set) none v)

-- what the search from a start has cost, wherever it was cut off
pub start_costs : (a : Automaton) (looks : ℕ) (old set : List ℕ) → old ≡ [] → IsDistinct nat_eq set → All (λ q. q < length a.states) set →
    (before now : ℕ) →
    now ≤ before + 1 + known_ways a looks (drop (length old) set) → now ≤ before + 1 + free_ways a
start_costs a looks old set none once below before now cost =
    let whole : known_ways a looks (drop (length old) set) ≡ known_ways a looks set =
    ap (λ (l : List ℕ). known_ways a looks (drop (length l) set)) none in
    omega (arith, cost, whole, ways_once a looks set (once_from_distinct set once) (has_from_all (length a.states) set below))
